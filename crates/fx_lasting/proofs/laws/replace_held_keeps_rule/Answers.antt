use Rattle.fx_lasting.proofs.slot_lemmas.Renewals.{replaces_held_keep}
use Rattle.fx_lasting.proofs.laws.replace_held_keeps_rule.Goals as goal

pub returns : goal.returns
returns c = replaces_held_keep
