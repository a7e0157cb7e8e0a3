use Rattle.fx_ring.proofs.Words.{rules}
use Rattle.fx_ring.proofs.Rings.{all_closed}
use Rattle.fx_ring.proofs.ring.Ring.tear_down.Goals as goal

pub returns-clause-closes : goal.returns-clause-closes
returns-clause-closes c =
    all_closed c.sort.new.self c.self.view_is c.self.invariant.ring (search rules) c.sort.ensures.same_files c.sort.ensures.in_order
