use Rattle.check_judge.proofs.{◌≡◌, length, sym, arith, length-map, members_of, all_asked, ring_with_slots, zero-add, IfOk-weaker}
use Rattle.check_judge.proofs.Refuting.{done_so, outcome_recorded}
use Rattle.check_judge.proofs.judging.judge_recorded.Goals as goal

pub returns-in-Err-Refuted : goal.returns-in-Err-Refuted
returns-in-Err-Refuted c =
    let size : c.len.result ≡ length c.args.ring.now.slots.at.items = omega (arith, c.args.ring.now.slots.at.ok.0) in
    let none = rw c.in-Err-Refuted.field-0-is at c.in-Err-Refuted.ensures.claims in
    λ room left one. none tt one.order
    (rw (size, c.deref-2.ensures.value, c.in_ok-chains.ensures.members, c.deref-3.ensures.value, c.new-claims.ensures.items)
    (done_so (ring_with_slots c.args.case.now.catalogue.now c.args.ring.now) (all_asked c.args.case.now.requests.now) c.args.case.now.recorded.now room left one))

pub returns : goal.returns
returns c =
    let size : c.len.result ≡ length c.args.ring.now.slots.at.items = omega (arith, c.args.ring.now.slots.at.ok.0) in
    let many = rw (c.new-claims.ensures.items, c.deref-2.ensures.value, zero-add) at c.in-Ok.ensures.many in
    IfOk-weaker c.judge_table.result _ _
    (λ o is. outcome_recorded (ring_with_slots c.args.case.now.catalogue.now c.args.ring.now) (all_asked c.args.case.now.requests.now) c.args.case.now.recorded.now
    c.requires.ring c.push_chains.new.lists.items
    (rw (sym c.in_ok-chains.ensures.members, length-map c.in_ok-chains.chains.items (members_of (all_asked c.args.case.now.requests.now))) many)
    (λ order done. rw (sym c.deref.ensures.value)
    (c.in-Ok.ensures.claims order
    (rw (size, c.deref-2.ensures.value, c.in_ok-chains.ensures.members, c.deref-3.ensures.value, c.new-claims.ensures.items) done)
    (rw c.new-claims.ensures.items (λ k claims is. absurd (cc)))))
    o (rw (sym c.deref-4.ensures.value, sym c.deref-5.ensures.value) is))
    c.judge_table.ensures
