use Rattle.check_flight.proofs.{ℕ, ◌+◌, ◌<◌, ◌≤◌, length, run_at, slice_index_or, runs_of_calls, not_begun}
use Rattle.check_flight.proofs.state.count_over.Given as goal

abbrev pub invariant-loop-j : goal.invariant-loop-j
invariant-loop-j l = (k : ℕ) → k < l.j
    → length (run_at (runs_of_calls l.calls) (l.state.base + k + 1)) ≤ (slice_index_or l.state.chains.items k not_begun).done
