use Rattle.fx_order.proofs.{◌≡◌, length, ◌∙◌, arith, all_asked, accesses_of, table_after, not_from_Decides}
use Rattle.fx_order.proofs.Ordered.{as_many, never, ring_left_is}
use Rattle.fx_order.proofs.report.slots_left.Goals as goal

pub returns-then-not-are_within-clause-order : goal.returns-then-not-are_within-clause-order
returns-then-not-are_within-clause-order c = never (λ o.
    let count = as_many (all_asked c.args.submitted.now.requests.now) c.in_ok-chains.chains.items c.len.result
    (omega (arith, c.in_ok-chains.chains.ok.0)) c.in_ok-chains.ensures.members in
    not_from_Decides _ c.are_within.ensures c.if-not-are_within.true (rw count (o 0 0).chains))

pub returns-then-not-branch-clause-order : goal.returns-then-not-branch-clause-order
returns-then-not-branch-clause-order c = never (λ o.
    let size : c.len-2.result ≡ length c.args.slots.now.at.items = omega (arith, c.args.slots.now.at.ok.0) in
    not_from_Decides _ c.in_ok-are_chains_done.ensures c.if-not-branch.true
    (rw (size, c.deref.ensures.value, c.in_ok-chains.ensures.members) (o 0 0).done))

pub returns-then-not-branch-2-clause-order : goal.returns-then-not-branch-2-clause-order
returns-then-not-branch-2-clause-order c = never (λ o.
    not_from_Decides _ c.in_ok-are_closed.ensures c.if-not-branch-2.true ((o 0 0).closed.same_files, (o 0 0).closed.in_order))

pub returns-then-not-make_all-clause-order : goal.returns-then-not-make_all-clause-order
returns-then-not-make_all-clause-order c = never (λ o.
    not_from_Decides _ c.make_all.ensures.permitted c.if-not-make_all.true (rw c.in_ok-left.ensures (o 0 0).permitted))

pub returns-clause-left : goal.returns-clause-left
returns-clause-left c = λ registrations.
    ring_left_is c.args.submitted.now.catalogue.now c.args.slots.now c.make_all.new.slots c.args.submitted.now.submissions registrations
    c.args.order.now (c.make_all.ensures.made c.if-not-make_all.false ∙ (λ i. table_after (c.in_ok-left.ensures i) (accesses_of c.args.order.now)))
