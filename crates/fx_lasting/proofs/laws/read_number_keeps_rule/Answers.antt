use Rattle.fx_lasting.proofs.node_lemmas.Labelling.{reads_number_keep}
use Rattle.fx_lasting.proofs.laws.read_number_keeps_rule.Goals as goal

pub returns : goal.returns
returns c = reads_number_keep
