use Rattle.check_judge.proofs.{◌≡◌, ℕ, ◌<◌, Some, name_at}
use Rattle.check_judge.proofs.recorded.entry_named.Given as goal

abbrev pub invariant-loop-entry : goal.invariant-loop-entry
invariant-loop-entry l = (k : ℕ) → k < l.entry → name_at l.catalogue k ≡ Some l.name → ⊥
