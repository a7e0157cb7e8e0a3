use Rattle.check_outcomes.proofs.{◌<◌, ℕ, slice_index_or, IsStateExploredBy, PlayState}
use Rattle.check_outcomes.proofs.closed.are_states_explored.Given as goal

abbrev pub invariant-loop-state : goal.invariant-loop-state
invariant-loop-state l = (k : ℕ) (d : PlayState) → k < l.state-index → IsStateExploredBy l.claimed (slice_index_or l.claimed.found.now.states.items k d)
