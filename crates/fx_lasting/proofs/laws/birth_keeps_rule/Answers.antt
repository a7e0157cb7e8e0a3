use Rattle.fx_lasting.proofs.node_lemmas.Births.{births_keep}
use Rattle.fx_lasting.proofs.laws.birth_keeps_rule.Goals as goal

pub returns : goal.returns
returns c = births_keep
