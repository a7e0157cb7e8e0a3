use Rattle.check_judge.proofs.{length, ℕ, ◌<◌, ◌≡◌, ◌≤◌, get_or}
use Rattle.check_judge.proofs.recorded.wrong_tag.Given as goal

abbrev pub invariant-loop-i : goal.invariant-loop-i
invariant-loop-i l = record { inside : l.i ≤ length l.tags; same : (k : ℕ) → k < l.i → get_or l.expected k 0 ≡ get_or l.tags k 0 }
