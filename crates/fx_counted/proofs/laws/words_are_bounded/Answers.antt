use Rattle.fx_counted.proofs.Openings.{words_are_bounded}
use Rattle.fx_counted.proofs.laws.words_are_bounded.Goals as goal

pub returns : goal.returns
returns c = words_are_bounded
