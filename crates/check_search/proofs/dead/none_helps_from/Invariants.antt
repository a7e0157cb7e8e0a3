use Rattle.check_search.proofs.Words.{◌≡◌, ℕ, ◌<◌, ◌≤◌, true, Some, slice_get, no_help, Claim}
use Rattle.check_search.proofs.dead.none_helps_from.Given as goal

abbrev pub invariant-loop-k : goal.invariant-loop-k
invariant-loop-k l = (k : ℕ) (other : Claim) → l.first ≤ k → k < l.k → slice_get l.claims k ≡ Some other → no_help l.slot l.claim other ≡ true
