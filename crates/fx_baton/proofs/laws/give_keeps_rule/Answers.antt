use Rattle.fx_baton.proofs.TurnsKeepRule.{give_keeps}
use Rattle.fx_baton.proofs.laws.give_keeps_rule.Goals as goal

pub returns : goal.returns
returns c = give_keeps
