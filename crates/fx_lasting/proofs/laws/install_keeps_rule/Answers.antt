use Rattle.fx_lasting.proofs.slot_lemmas.SlotLaws.{installs_keep}
use Rattle.fx_lasting.proofs.laws.install_keeps_rule.Goals as goal

pub returns : goal.returns
returns c = installs_keep
