use Rattle.fx_lasting.proofs.WholeHistory.{is_of_all_passes}
use Rattle.fx_lasting.proofs.laws.has_one_history.Goals as goal

pub returns : goal.returns
returns c = is_of_all_passes
