use Rattle.fx_lasting.proofs.hold_lemmas.HoldWords.{announces_keep}
use Rattle.fx_lasting.proofs.laws.announce_keeps_rule.Goals as goal

pub returns : goal.returns
returns c = announces_keep
