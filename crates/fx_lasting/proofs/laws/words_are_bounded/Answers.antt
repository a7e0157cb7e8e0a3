use Rattle.fx_lasting.proofs.WordBounds.{words_are_bounded}
use Rattle.fx_lasting.proofs.laws.words_are_bounded.Goals as goal

pub returns : goal.returns
returns c = words_are_bounded
