use Rattle.fx_lasting.proofs.node_lemmas.KeptNodes.{parks_keep}
use Rattle.fx_lasting.proofs.laws.park_keeps_rule.Goals as goal

pub returns : goal.returns
returns c = parks_keep
