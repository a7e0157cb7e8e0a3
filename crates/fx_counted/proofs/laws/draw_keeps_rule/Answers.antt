use Rattle.fx_counted.proofs.Chains.{draws_keep}
use Rattle.fx_counted.proofs.laws.draw_keeps_rule.Goals as goal

pub returns : goal.returns
returns c = draws_keep
