use Rattle.fx_direct.proofs.Words.{arith, sym}
use Rattle.fx_direct.proofs.Orders.{found, left}
use Rattle.fx_direct.proofs.slot_order.SlotOrder.take.Goals as goal

pub invariant_of-self : goal.invariant_of-self
invariant_of-self c = (
  left c.pop.new.self.items c.self.inside.size c.self.inside.range c.pop.result c.self.inside.vacant.items c.pop.ensures.items c.self.invariant.0,
  let most = c.self.invariant.1 in let same = c.pop.ensures.capacity in omega arith,
)

pub returns-clause-found : goal.returns-clause-found
returns-clause-found c =
    rw (sym c.self.view_is) (found c.pop.new.self.items c.self.inside.size c.self.inside.range c.pop.result c.self.inside.vacant.items c.pop.ensures.items c.self.invariant.0)
