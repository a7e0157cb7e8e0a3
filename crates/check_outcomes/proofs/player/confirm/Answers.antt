use Rattle.check_outcomes.proofs.{All-map, all_asked, completed_of, ring_of_slots, ◌≡◌, ◌↔◌, ◌-◌, IfOk, IsSome, Option, Result, Some, None, arith}
use Rattle.check_outcomes.proofs.{length, refl, sym, Slots, HasMemory, report_of_play, IsReportBy, IfSome, Ok, Err}
use Rattle.check_outcomes.proofs.AllReports.{may_of}
use Rattle.check_outcomes.proofs.player.confirm.Goals as goal

-- where a call answers some slots exactly if A holds, what follows of both holds of its answer
of_both : {E : Type 0} (r : Result (Option Slots) E) (A : Type 0) (L Q : Slots → Type 0) → IfOk r (λ left. IsSome left ↔ A)
    → IfOk r (λ left. IfSome left L) → ((left : Slots) → A → L left → Q left) → IfOk r (λ left. IfSome left Q)
of_both (Ok (Some left)) A L Q some is all = all left (some.0 refl) is
of_both (Ok None) A L Q some is all = tt
of_both (Err error) A L Q some is all = tt

pub returns : goal.returns
returns c = of_both c.slots_left.result _ _ _ c.slots_left.ensures.order c.slots_left.ensures.left (λ left is leaves submissions registrations number.
    let sub = c.args.submission.now in
    let slots = c.args.slots.now in
    let size : sub.size ≡ length slots.at.items = omega (arith, c.args.slots.now.at.ok.0) in
    let before : sub.number - 1 ≡ submissions = omega arith in
    let by : IsReportBy (ring_of_slots sub.catalogue.now slots submissions registrations) (all_asked sub.requests.now)
    c.args.play.now.order.items (report_of_play sub c.args.play.now) left = record {
      is = rw (c.deref-2.ensures.value, c.deref-3.ensures.value, c.deref-4.ensures.value, before, sym number) at (is registrations 0);
      memory = All-map HasMemory completed_of _ (rw c.deref.ensures.value at (c.have_memory.ensures c.if-not-have_memory.false));
      leaves = rw (c.deref-4.ensures.value, before) at (leaves registrations);
    } in
    record { by = by; may = may_of (omega (arith, size, sub.few_slots)) sub.accepted by })
