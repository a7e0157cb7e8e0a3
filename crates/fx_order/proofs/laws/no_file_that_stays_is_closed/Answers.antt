use Rattle.fx_order.proofs.OneRing.{no_file_that_stays_is_closed}
use Rattle.fx_order.proofs.laws.no_file_that_stays_is_closed.Goals as goal

pub returns : goal.returns
returns c = no_file_that_stays_is_closed
