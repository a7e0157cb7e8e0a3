use Rattle.fx_direct.proofs.Words.{arith}
use Rattle.fx_direct.proofs.Sums.{few_counted}
use Rattle.fx_direct.proofs.slot_list.SlotList.begin.Goals as goal

pub overflow_add-self : goal.overflow_add-self
overflow_add-self c = let few = few_counted c.self.inside.slots.items c.self.inside.lives c.self.inside.calls c.self.invariant in omega (arith, few.0)

pub overflow_add-self-2 : goal.overflow_add-self-2
overflow_add-self-2 c = let few = few_counted c.self.inside.slots.items c.self.inside.lives c.self.inside.calls c.self.invariant in omega (arith, few.1)
