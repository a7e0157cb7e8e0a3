use Rattle.fx_counted.proofs.SlotLaws.{installs_keep}
use Rattle.fx_counted.proofs.laws.install_keeps_rule.Goals as goal

pub returns : goal.returns
returns c = installs_keep
