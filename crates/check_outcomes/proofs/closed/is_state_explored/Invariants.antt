use Rattle.check_outcomes.proofs.{◌<◌, ℕ, IsExploredInTurn}
use Rattle.check_outcomes.proofs.closed.is_state_explored.Given as goal

abbrev pub invariant-loop-i : goal.invariant-loop-i
invariant-loop-i l = (k : ℕ) → k < l.i → IsExploredInTurn l.claimed l.state k
