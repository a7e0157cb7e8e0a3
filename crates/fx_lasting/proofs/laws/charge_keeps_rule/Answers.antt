use Rattle.fx_lasting.proofs.hold_lemmas.Visiting.{charges_keep}
use Rattle.fx_lasting.proofs.laws.charge_keeps_rule.Goals as goal

pub returns : goal.returns
returns c = charges_keep
