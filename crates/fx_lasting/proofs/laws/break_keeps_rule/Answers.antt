use Rattle.fx_lasting.proofs.range_lemmas.QuestionSteps.{breaks_keep}
use Rattle.fx_lasting.proofs.laws.break_keeps_rule.Goals as goal

pub returns : goal.returns
returns c = breaks_keep
