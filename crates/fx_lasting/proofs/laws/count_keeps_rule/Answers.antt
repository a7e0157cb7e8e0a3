use Rattle.fx_lasting.proofs.range_lemmas.GroupSteps.{counts_keep}
use Rattle.fx_lasting.proofs.laws.count_keeps_rule.Goals as goal

pub returns : goal.returns
returns c = counts_keep
