use Rattle.fx_lasting.proofs.hold_lemmas.Skimming.{skims_keep}
use Rattle.fx_lasting.proofs.laws.skim_keeps_rule.Goals as goal

pub returns : goal.returns
returns c = skims_keep
