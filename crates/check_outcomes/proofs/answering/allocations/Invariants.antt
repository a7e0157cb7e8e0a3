use Rattle.check_outcomes.proofs.{ℕ, ◌<◌, Contains, Allocates, FindsFull}
use Rattle.check_outcomes.proofs.answering.allocations.Given as goal

abbrev pub invariant-loop-slot : goal.invariant-loop-slot
invariant-loop-slot l = record {
  full : Contains l.choices.items FindsFull;
  each : (k : ℕ) → k < l.slot → Contains l.choices.items (Allocates k l.file);
}
