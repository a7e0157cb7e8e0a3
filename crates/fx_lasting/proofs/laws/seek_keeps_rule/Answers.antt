use Rattle.fx_lasting.proofs.node_lemmas.Births.{seeks_keep}
use Rattle.fx_lasting.proofs.laws.seek_keeps_rule.Goals as goal

pub returns : goal.returns
returns c = seeks_keep
