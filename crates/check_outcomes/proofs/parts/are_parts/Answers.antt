use Rattle.check_outcomes.proofs.{All-map, slice_index_or, asked_of, Asked, table_of_slots, IsInPart, StaysIn, below_more, parts_by_numbers}
use Rattle.check_outcomes.proofs.parts.are_parts.Goals as goal

pub loop-i-preserved : goal.loop-i-preserved
loop-i-preserved c =
    let numbers = c.args.numbers.now in
    let Its : Asked → Type 0 = λ r. StaysIn (table_of_slots c.args.slots.now) (parts_by_numbers numbers).of_slot
    (slice_index_or numbers.of_chain.items c.loop-i.i 0) r.operation in
    below_more (IsInPart c.args.submission.now c.args.slots.now numbers) c.loop-i.i c.loop-i.invariant
    (rw (← c.members.ensures.run)
    (All-map Its asked_of c.members.result.now (rw c.part_of.ensures at (c.stay_in.ensures c.if-not-stay_in.false))))
