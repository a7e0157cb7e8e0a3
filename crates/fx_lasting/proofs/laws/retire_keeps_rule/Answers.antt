use Rattle.fx_lasting.proofs.hold_lemmas.Retiring.{retires_keep}
use Rattle.fx_lasting.proofs.laws.retire_keeps_rule.Goals as goal

pub returns : goal.returns
returns c = retires_keep
