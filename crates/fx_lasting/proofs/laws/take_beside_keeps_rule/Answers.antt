use Rattle.fx_lasting.proofs.hold_lemmas.Taking.{takes_beside_keep}
use Rattle.fx_lasting.proofs.laws.take_beside_keeps_rule.Goals as goal

pub returns : goal.returns
returns c = takes_beside_keep
