use Rattle.fx_lasting.proofs.slot_lemmas.SwapsHeld.{takes_held_keep}
use Rattle.fx_lasting.proofs.laws.take_held_keeps_rule.Goals as goal

pub returns : goal.returns
returns c = takes_held_keep
