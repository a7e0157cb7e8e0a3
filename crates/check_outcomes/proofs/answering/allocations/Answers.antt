use Rattle.check_outcomes.proofs.{arith, each_allocation, one_slot_more}
use Rattle.check_outcomes.proofs.answering.allocations.Goals as goal

pub loop-slot-preserved : goal.loop-slot-preserved
loop-slot-preserved c =
    let more = one_slot_more c.loop-slot.choices.items c.loop-slot.invariant.full c.loop-slot.invariant.each in
    record { full = rw c.in_ok-push.ensures.items more.0; each = λ k low. rw c.in_ok-push.ensures.items (more.1 k low) }

pub returns : goal.returns
returns c =
    let past = c.loop-slot-test.false in
    each_allocation _ c.loop-slot.choices.items c.loop-slot.invariant.full (λ slot low. c.loop-slot.invariant.each slot (omega arith))
