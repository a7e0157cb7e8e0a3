use Rattle.fx_counted.proofs.LettingGo.{rests_keep}
use Rattle.fx_counted.proofs.laws.rest_keeps_rule.Goals as goal

pub returns : goal.returns
returns c = rests_keep
