use Rattle.fx_counted.proofs.LettingGo.{releases_keep}
use Rattle.fx_counted.proofs.laws.release_keeps_rule.Goals as goal

pub returns : goal.returns
returns c = releases_keep
