use Rattle.fx_lasting.proofs.range_lemmas.GroupSteps.{lowers_keep}
use Rattle.fx_lasting.proofs.laws.lower_keeps_rule.Goals as goal

pub returns : goal.returns
returns c = lowers_keep
