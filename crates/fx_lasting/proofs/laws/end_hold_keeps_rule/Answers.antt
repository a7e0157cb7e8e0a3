use Rattle.fx_lasting.proofs.hold_lemmas.EndingHold.{ends_hold_keep}
use Rattle.fx_lasting.proofs.laws.end_hold_keeps_rule.Goals as goal

pub returns : goal.returns
returns c = ends_hold_keep
