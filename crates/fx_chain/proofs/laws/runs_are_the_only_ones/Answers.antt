use Rattle.fx_chain.proofs.Runs.{the_only_runs}
use Rattle.fx_chain.proofs.laws.runs_are_the_only_ones.Goals as goal

pub returns : goal.returns
returns c = the_only_runs
