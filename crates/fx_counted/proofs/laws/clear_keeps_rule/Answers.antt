use Rattle.fx_counted.proofs.SlotLaws.{clears_keep}
use Rattle.fx_counted.proofs.laws.clear_keeps_rule.Goals as goal

pub returns : goal.returns
returns c = clears_keep
