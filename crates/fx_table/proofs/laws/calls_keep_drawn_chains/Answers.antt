use Rattle.fx_table.proofs.Chains.{keeps_drawn_chains}
use Rattle.fx_table.proofs.laws.calls_keep_drawn_chains.Goals as goal

pub returns : goal.returns
returns c = keeps_drawn_chains
