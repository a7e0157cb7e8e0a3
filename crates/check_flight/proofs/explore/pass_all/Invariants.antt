use Rattle.check_flight.proofs.{ℕ, ◌<◌, take, slice_index_or, log_in, runs_of_calls, IsStatePassed, happening_of, FlightState, flight_view}
use Rattle.check_flight.proofs.explore.pass_all.Given as goal

abbrev pub invariant-loop-state : goal.invariant-loop-state
invariant-loop-state l = (k : ℕ) (d : FlightState) → k < l.state-index
    → IsStatePassed l.log (runs_of_calls l.calls) (take l.at (log_in l.log)) l.nexts.states.items (happening_of l.event)
    (flight_view (runs_of_calls l.calls) (slice_index_or l.front.states.items k d))
