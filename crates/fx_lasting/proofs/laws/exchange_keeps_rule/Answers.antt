use Rattle.fx_lasting.proofs.slot_lemmas.SlotLaws.{exchanges_keep}
use Rattle.fx_lasting.proofs.laws.exchange_keeps_rule.Goals as goal

pub returns : goal.returns
returns c = exchanges_keep
