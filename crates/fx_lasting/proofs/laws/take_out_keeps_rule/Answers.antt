use Rattle.fx_lasting.proofs.slot_lemmas.SlotLaws.{takes_out_keep}
use Rattle.fx_lasting.proofs.laws.take_out_keeps_rule.Goals as goal

pub returns : goal.returns
returns c = takes_out_keep
