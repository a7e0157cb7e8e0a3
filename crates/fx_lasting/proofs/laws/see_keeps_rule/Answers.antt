use Rattle.fx_lasting.proofs.slot_lemmas.Seeing.{sees_keep}
use Rattle.fx_lasting.proofs.laws.see_keeps_rule.Goals as goal

pub returns : goal.returns
returns c = sees_keep
