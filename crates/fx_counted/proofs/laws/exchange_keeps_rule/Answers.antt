use Rattle.fx_counted.proofs.SlotLaws.{exchanges_keep}
use Rattle.fx_counted.proofs.laws.exchange_keeps_rule.Goals as goal

pub returns : goal.returns
returns c = exchanges_keep
