use Rattle.check_flight.proofs.{ℕ, ◌<◌, slice_index_or, WaitingLook, IsWaitDeniedIn}
use Rattle.check_flight.proofs.explore.are_waits_denied.Given as goal

abbrev pub invariant-loop-look : goal.invariant-loop-look
invariant-loop-look l =
    (k : ℕ) (d : WaitingLook) → k < l.look-index → IsWaitDeniedIn l.log l.calls l.state (slice_index_or l.state.waiting.items k d)
