use Rattle.check_judge.proofs.{◌≡◌, ℕ, ◌<◌, None, Some, slice_index_or, Closed}
use Rattle.check_judge.proofs.recorded.file_marked.Given as goal

abbrev pub invariant-loop-file : goal.invariant-loop-file
invariant-loop-file l = (k : ℕ) (f : Closed) → k < l.file-index → slice_index_or l.slots.at.items k None ≡ Some f → f.mark ≡ l.mark → ⊥
