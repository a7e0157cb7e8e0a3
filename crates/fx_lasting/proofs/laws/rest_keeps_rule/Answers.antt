use Rattle.fx_lasting.proofs.node_lemmas.Births.{rests_keep}
use Rattle.fx_lasting.proofs.laws.rest_keeps_rule.Goals as goal

pub returns : goal.returns
returns c = rests_keep
