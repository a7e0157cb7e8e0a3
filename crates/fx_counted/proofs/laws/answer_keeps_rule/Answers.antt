use Rattle.fx_counted.proofs.ControlSteps.{answers_keep}
use Rattle.fx_counted.proofs.laws.answer_keeps_rule.Goals as goal

pub returns : goal.returns
returns c = answers_keep
