use Rattle.check_flight.proofs.{◌≡◌, List, Asked, take, flight_views}
use Rattle.check_flight.proofs.front.Front.copy.Given as goal

abbrev pub invariant-loop-state : goal.invariant-loop-state
invariant-loop-state l = (runs : List (List Asked))
    → flight_views runs l.copy.states.items ≡ flight_views runs (take l.state-index l.fn.self.states.items)
