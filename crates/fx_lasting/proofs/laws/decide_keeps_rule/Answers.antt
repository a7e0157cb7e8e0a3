use Rattle.fx_lasting.proofs.range_lemmas.QuestionSteps.{decides_keep}
use Rattle.fx_lasting.proofs.laws.decide_keeps_rule.Goals as goal

pub returns : goal.returns
returns c = decides_keep
