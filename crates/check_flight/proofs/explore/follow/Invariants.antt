use Rattle.check_flight.proofs.{ℕ, ◌+◌, ◌<◌, IsCallFollowed, IsFrontOf, runs_of_calls}
use Rattle.check_flight.proofs.explore.follow.Given as goal

abbrev pub invariant-loop-j : goal.invariant-loop-j
invariant-loop-j l = record {
  kept : IsFrontOf l.initial.front.states.items l.front.states.items;
  followed : (k : ℕ) → k < l.j → IsCallFollowed l.log (runs_of_calls l.calls) l.front.states.items l.state (l.state.base + k + 1);
}
