use Rattle.fx_lasting.proofs.node_lemmas.Labelling.{numbers_keep}
use Rattle.fx_lasting.proofs.laws.number_keeps_rule.Goals as goal

pub returns : goal.returns
returns c = numbers_keep
