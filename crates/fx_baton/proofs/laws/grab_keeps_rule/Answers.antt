use Rattle.fx_baton.proofs.TurnsKeepRule.{grab_keeps}
use Rattle.fx_baton.proofs.laws.grab_keeps_rule.Goals as goal

pub returns : goal.returns
returns c = grab_keeps
