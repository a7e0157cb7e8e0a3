use Rattle.check_judge.proofs.{◌≡◌, ℕ, ◌<◌, None, Some, slice_index_or, Closed}
use Rattle.check_judge.proofs.kept.are_apart.Given as goal

-- no two of the slots that were looked at have files with one mark
abbrev pub invariant-loop-slot : goal.invariant-loop-slot
invariant-loop-slot l = (j k : ℕ) (f g : Closed) → j < l.slot → k < l.slot → slice_index_or l.at j None ≡ Some f
    → slice_index_or l.at k None ≡ Some g → f.mark ≡ g.mark → j ≡ k
