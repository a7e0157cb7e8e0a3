use Rattle.fx_lasting.proofs.node_lemmas.KeptNodes.{settles_keep}
use Rattle.fx_lasting.proofs.laws.settle_keeps_rule.Goals as goal

pub returns : goal.returns
returns c = settles_keep
