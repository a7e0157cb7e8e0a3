use Rattle.fx_lasting.proofs.slot_lemmas.SwapsOut.{swap_takes_keep}
use Rattle.fx_lasting.proofs.laws.swap_take_keeps_rule.Goals as goal

pub returns : goal.returns
returns c = swap_takes_keep
