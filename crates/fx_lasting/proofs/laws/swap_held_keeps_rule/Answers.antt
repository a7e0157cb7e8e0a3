use Rattle.fx_lasting.proofs.slot_lemmas.SwapsHeld.{swaps_held_keep}
use Rattle.fx_lasting.proofs.laws.swap_held_keeps_rule.Goals as goal

pub returns : goal.returns
returns c = swaps_held_keep
