use Rattle.fx_lasting.proofs.node_lemmas.Labelling.{recalls_tag_keep}
use Rattle.fx_lasting.proofs.laws.recall_keeps_rule.Goals as goal

pub returns : goal.returns
returns c = recalls_tag_keep
