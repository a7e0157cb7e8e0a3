use Rattle.fx_ring.proofs.Words.{◌≡◌, ◌≤◌, length, All, vec_capacity, all_asked, HasRoomFor}
use Rattle.fx_ring.proofs.outcome.Outcome.for_each.Given as goal

abbrev pub invariant-loop : goal.invariant-loop
invariant-loop l = record {
  count : length l.outcomes.items ≡ l.counter;
  capacity : l.workers ≤ vec_capacity l.outcomes;
  room : All (HasRoomFor (all_asked l.requests)) l.outcomes.items;
}
