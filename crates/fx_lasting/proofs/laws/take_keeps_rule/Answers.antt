use Rattle.fx_lasting.proofs.hold_lemmas.Taking.{takes_once_keep}
use Rattle.fx_lasting.proofs.laws.take_keeps_rule.Goals as goal

pub returns : goal.returns
returns c = takes_once_keep
