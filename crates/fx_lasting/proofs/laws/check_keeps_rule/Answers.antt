use Rattle.fx_lasting.proofs.range_lemmas.QuestionSteps.{checks_keep}
use Rattle.fx_lasting.proofs.laws.check_keeps_rule.Goals as goal

pub returns : goal.returns
returns c = checks_keep
