use Rattle.fx_script.proofs.{◌≤◌, CHAIN_NUMBERS, MAX_CHAINS}
use Rattle.fx_script.proofs.played_ring.needs_of_submission.Given as goal

abbrev pub invariant-loop-i : goal.invariant-loop-i
invariant-loop-i l = record {
  few_chains : l.chains ≤ MAX_CHAINS;
  few_files : l.most ≤ CHAIN_NUMBERS;
  few_installs : l.installs ≤ CHAIN_NUMBERS;
}
