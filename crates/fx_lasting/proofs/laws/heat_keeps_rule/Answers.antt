use Rattle.fx_lasting.proofs.hold_lemmas.Taking.{heats_keep}
use Rattle.fx_lasting.proofs.laws.heat_keeps_rule.Goals as goal

pub returns : goal.returns
returns c = heats_keep
