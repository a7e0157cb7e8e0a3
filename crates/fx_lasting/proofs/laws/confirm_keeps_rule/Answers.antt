use Rattle.fx_lasting.proofs.hold_lemmas.Looking.{confirms_keep}
use Rattle.fx_lasting.proofs.laws.confirm_keeps_rule.Goals as goal

pub returns : goal.returns
returns c = confirms_keep
