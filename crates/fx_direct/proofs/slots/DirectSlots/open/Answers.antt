use Rattle.fx_direct.proofs.Words.{arith}
use Rattle.fx_direct.proofs.slots.DirectSlots.open.Goals as goal

pub invariant_of-result : goal.invariant_of-result
invariant_of-result c = grind arith
