use Rattle.fx_direct.proofs.Words.{Free, None}
use Rattle.fx_direct.proofs.Keeping.{vacated}
use Rattle.fx_direct.proofs.slots.DirectSlots.closed.Goals as goal

pub invariant_of-self : goal.invariant_of-self
invariant_of-self c =
    vacated c.self.inside.list c.self.inside.order c.self.invariant c.args.key c.in_ok-phase.ensures.0.0.0 c.free.new.order Free None c.free.new.list c.in_ok-phase.ensures.0 c.free.ensures.same c.free.ensures.range c.free.ensures.order
    (c.free.ensures.list, λ due. cc)
