use Rattle.fx_counted.proofs.SlotLaws.{loads_keep}
use Rattle.fx_counted.proofs.laws.load_keeps_rule.Goals as goal

pub returns : goal.returns
returns c = loads_keep
