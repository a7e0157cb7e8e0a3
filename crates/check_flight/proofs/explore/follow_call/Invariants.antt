use Rattle.check_flight.proofs.{ℕ, ◌+◌, ◌<◌, Access, slice_index_or, IsAccessFollowed, IsFrontOf, runs_of_calls}
use Rattle.check_flight.proofs.explore.follow_call.Given as goal

abbrev pub invariant-loop-access : goal.invariant-loop-access
invariant-loop-access l = record {
  kept : IsFrontOf l.initial.front.states.items l.front.states.items;
  followed : (k : ℕ) (d : Access) → k < l.access-index
      → IsAccessFollowed l.log (runs_of_calls l.calls) l.front.states.items l.state (l.state.base + l.j + 1) (slice_index_or l.access-items k d);
}
