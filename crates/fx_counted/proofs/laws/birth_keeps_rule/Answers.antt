use Rattle.fx_counted.proofs.LettingGo.{births_keep}
use Rattle.fx_counted.proofs.laws.birth_keeps_rule.Goals as goal

pub returns : goal.returns
returns c = births_keep
