use Rattle.fx_direct.proofs.Words.{arith}
use Rattle.fx_direct.proofs.Sums.{lives_high, one_life, calls_high}
use Rattle.fx_direct.proofs.slot_list.SlotList.set.Goals as goal

pub overflow_add-self : goal.overflow_add-self
overflow_add-self c = grind (arith, lives_high, one_life)

pub overflow_add-self-2 : goal.overflow_add-self-2
overflow_add-self-2 c = let i = c.self.invariant in grind (arith, i.calls_are, calls_high c.self.inside.slots.items i.each, c.calls-2.ensures.calls)
