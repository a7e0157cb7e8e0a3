use Rattle.fx_direct.proofs.Words.{arith, ordered}
use Rattle.fx_direct.proofs.Orders.{put_in, room}
use Rattle.fx_direct.proofs.slot_order.SlotOrder.put.Goals as goal

pub push_reserved-requires : goal.push_reserved-requires
push_reserved-requires c = grind (arith, ordered, room)

pub invariant_of-self : goal.invariant_of-self
invariant_of-self c = grind (arith, ordered, put_in)
