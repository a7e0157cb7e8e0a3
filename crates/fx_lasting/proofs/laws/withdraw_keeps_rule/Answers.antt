use Rattle.fx_lasting.proofs.hold_lemmas.HoldWords.{withdraws_keep}
use Rattle.fx_lasting.proofs.laws.withdraw_keeps_rule.Goals as goal

pub returns : goal.returns
returns c = withdraws_keep
