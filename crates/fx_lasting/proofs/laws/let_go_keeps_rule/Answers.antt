use Rattle.fx_lasting.proofs.hold_lemmas.LetGoLaws.{letting_go_keeps}
use Rattle.fx_lasting.proofs.laws.let_go_keeps_rule.Goals as goal

pub returns : goal.returns
returns c = letting_go_keeps
