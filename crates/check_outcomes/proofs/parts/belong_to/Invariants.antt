use Rattle.check_outcomes.proofs.{◌≡◌, ◌<◌, ◌≤◌, ℕ, slice_index_or}
use Rattle.check_outcomes.proofs.parts.belong_to.Given as goal

abbrev pub invariant-loop-slot : goal.invariant-loop-slot
invariant-loop-slot l = (k : ℕ) → l.from ≤ k → k < l.slot → slice_index_or l.of_slot k 0 ≡ l.part
