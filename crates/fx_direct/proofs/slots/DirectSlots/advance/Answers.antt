use Rattle.fx_direct.proofs.Keeping.{goes_on}
use Rattle.fx_direct.proofs.slots.DirectSlots.advance.Goals as goal

pub invariant_of-self-in_default : goal.invariant_of-self-in_default
invariant_of-self-in_default c =
    goes_on c.self.inside.list c.self.inside.order c.self.invariant c.args.key c.args.member c.advance.result c.advance.new.self c.advance.ensures.went c.advance.ensures.stayed
