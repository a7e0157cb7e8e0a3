use Rattle.fx_script.proofs.{◌≤◌, CHAIN_NUMBERS, MAX_CHAINS}
use Rattle.fx_script.proofs.played_ring.needs_together.Given as goal

abbrev pub invariant-loop-command : goal.invariant-loop-command
invariant-loop-command l = record {
  few_chains : l.needs.0 ≤ MAX_CHAINS;
  few_files : l.needs.1.0 ≤ CHAIN_NUMBERS;
}
