use Rattle.fx_counted.proofs.SlotLaws.{takes_keep}
use Rattle.fx_counted.proofs.laws.take_keeps_rule.Goals as goal

pub returns : goal.returns
returns c = takes_keep
