use Rattle.fx_counted.proofs.LettingGo.{retires_keep}
use Rattle.fx_counted.proofs.laws.retire_keeps_rule.Goals as goal

pub returns : goal.returns
returns c = retires_keep
