use Rattle.check_judge.proofs.{◌≡◌, ℕ, ◌<◌, None, Some, slice_index_or, Closed}
use Rattle.check_judge.proofs.kept.is_new.Given as goal

abbrev pub invariant-loop-slot : goal.invariant-loop-slot
invariant-loop-slot l = (k : ℕ) (f : Closed) → k < l.slot → slice_index_or l.at k None ≡ Some f → f.mark ≡ l.mark → ⊥
