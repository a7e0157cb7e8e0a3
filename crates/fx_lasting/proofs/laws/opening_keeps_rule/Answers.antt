use Rattle.fx_lasting.proofs.life_lemmas.Openings.{opening_keeps}
use Rattle.fx_lasting.proofs.laws.opening_keeps_rule.Goals as goal

pub returns : goal.returns
returns c = opening_keeps
