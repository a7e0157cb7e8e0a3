use Rattle.check_outcomes.proofs.{ℕ, ◌<◌, slice_index_or, Permits, table_of_slots, Access, IsExploredBy}
use Rattle.check_outcomes.proofs.closed.are_explored.Given as goal

abbrev pub invariant-loop-access : goal.invariant-loop-access
invariant-loop-access l = (k : ℕ) (d : Access) → k < l.access-index → Permits (table_of_slots l.state.slots) (slice_index_or l.accesses k d)
    → IsExploredBy l.claimed l.state l.i (slice_index_or l.accesses k d)
