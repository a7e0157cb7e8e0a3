use Rattle.fx_lasting.proofs.node_lemmas.Labelling.{reads_tag_keep}
use Rattle.fx_lasting.proofs.laws.read_tag_keeps_rule.Goals as goal

pub returns : goal.returns
returns c = reads_tag_keep
