use Rattle.fx_lasting.proofs.hold_lemmas.HoldWords.{steps_down_keep}
use Rattle.fx_lasting.proofs.laws.step_down_keeps_rule.Goals as goal

pub returns : goal.returns
returns c = steps_down_keep
