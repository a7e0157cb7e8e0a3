use Rattle.fx_lasting.proofs.hold_lemmas.Visiting.{visits_keep}
use Rattle.fx_lasting.proofs.laws.visit_keeps_rule.Goals as goal

pub returns : goal.returns
returns c = visits_keep
