use Rattle.fx_order.proofs.OneRing.{each_closed_file_is_known}
use Rattle.fx_order.proofs.laws.each_closed_file_is_known.Goals as goal

pub returns : goal.returns
returns c = each_closed_file_is_known
