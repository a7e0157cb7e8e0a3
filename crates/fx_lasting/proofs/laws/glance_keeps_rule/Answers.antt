use Rattle.fx_lasting.proofs.hold_lemmas.Looking.{glances_keep}
use Rattle.fx_lasting.proofs.laws.glance_keeps_rule.Goals as goal

pub returns : goal.returns
returns c = glances_keep
