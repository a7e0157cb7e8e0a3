use Rattle.fx_plain.proofs.LawHolds.{no_close_while_held}
use Rattle.fx_plain.proofs.laws.no_close_while_held.Goals as goal

pub returns : goal.returns
returns c = λ start end before since others look slot f legal. no_close_while_held start before since others look slot f legal.leads.0 legal.releases
