use Rattle.check_flight.proofs.{ℕ, ◌≤◌, length, take, log_in, HaveNoFlight, IsReachedFrom}
use Rattle.check_flight.proofs.verdict.shortest_refuted.Given as goal

abbrev pub invariant-loop : goal.invariant-loop
invariant-loop l = record {
  within : l.high ≤ length l.log.events.now;
  refuted : HaveNoFlight l.log l.slots l.high;
  saved : (longer : ℕ) → l.low ≤ longer → IsReachedFrom l.log l.slots (take longer (log_in l.log)) l.saved;
}
