use Rattle.fx_chain.proofs.Words.{◌≤◌, ◌*◌, ◌-◌, length, MOST_MEMBERS, MAX_CHAINS}
use Rattle.fx_chain.proofs.Runs.{IsCut}
use Rattle.fx_chain.proofs.chain.cut.Given as goal

abbrev pub invariant-loop-first : goal.invariant-loop-first
invariant-loop-first l = record {
  short : length l.requests ≤ MOST_MEMBERS * MAX_CHAINS;
  inside : l.first ≤ length l.requests;
  cut : IsCut l.requests l.chains.items l.first;
}

abbrev pub decreases-loop-first : goal.decreases-loop-first
decreases-loop-first l = length l.requests - l.first
