use Rattle.fx_lasting.proofs.range_lemmas.GroupSteps.{raises_keep}
use Rattle.fx_lasting.proofs.laws.raise_keeps_rule.Goals as goal

pub returns : goal.returns
returns c = raises_keep
