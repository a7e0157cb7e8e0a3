use Rattle.fx_lasting.proofs.node_lemmas.Labelling.{tags_keep}
use Rattle.fx_lasting.proofs.laws.tag_keeps_rule.Goals as goal

pub returns : goal.returns
returns c = tags_keep
