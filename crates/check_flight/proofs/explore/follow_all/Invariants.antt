use Rattle.check_flight.proofs.{ℕ, ◌<◌, slice_index_or, IsFrontOf, IsWhollyFollowed, FlightState, flight_view, runs_of_calls}
use Rattle.check_flight.proofs.explore.follow_all.Given as goal

abbrev pub invariant-loop-number : goal.invariant-loop-number
invariant-loop-number l = record {
  kept : IsFrontOf l.initial.front.states.items l.front.states.items;
  followed : (k : ℕ) (d : FlightState) → k < l.number
      → IsWhollyFollowed l.log l.calls l.front.states.items (flight_view (runs_of_calls l.calls) (slice_index_or l.front.states.items k d));
}
