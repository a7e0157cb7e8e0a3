use Rattle.fx_lasting.proofs.Peeking.{peeks_keep}
use Rattle.fx_lasting.proofs.laws.peek_keeps_rule.Goals as goal

pub returns : goal.returns
returns c = peeks_keep
