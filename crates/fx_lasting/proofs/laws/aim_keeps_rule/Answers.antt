use Rattle.fx_lasting.proofs.hold_lemmas.Looking.{aims_keep}
use Rattle.fx_lasting.proofs.laws.aim_keeps_rule.Goals as goal

pub returns : goal.returns
returns c = aims_keep
