use Rattle.fx_counted.proofs.LookUps.{looks_keep}
use Rattle.fx_counted.proofs.laws.look_keeps_rule.Goals as goal

pub returns : goal.returns
returns c = looks_keep
