use Rattle.fx_lasting.proofs.range_lemmas.QuestionSteps.{begins_keep}
use Rattle.fx_lasting.proofs.laws.begin_keeps_rule.Goals as goal

pub returns : goal.returns
returns c = begins_keep
