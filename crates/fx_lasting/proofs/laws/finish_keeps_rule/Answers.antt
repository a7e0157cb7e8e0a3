use Rattle.fx_lasting.proofs.hold_lemmas.Finishing.{finishes_keep}
use Rattle.fx_lasting.proofs.laws.finish_keeps_rule.Goals as goal

pub returns : goal.returns
returns c = finishes_keep
