use Rattle.fx_table.proofs.Calls.{adds_then}
use Rattle.fx_table.proofs.laws.calls_compose.Goals as goal

pub returns : goal.returns
returns c = adds_then
