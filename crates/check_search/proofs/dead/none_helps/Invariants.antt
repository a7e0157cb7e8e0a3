use Rattle.check_search.proofs.Words.{◌≡◌, ℕ, ◌<◌, ◌≤◌, true, Some, slice_get, slice_index, no_help, Claim, Strand}
use Rattle.check_search.proofs.dead.none_helps.Given as goal

abbrev pub invariant-loop-c : goal.invariant-loop-c
invariant-loop-c l = (c k : ℕ) (strand : Strand) (other : Claim) → c < l.c → slice_get l.strands c ≡ Some strand → slice_index l.places c ≤ k
    → slice_get strand.claims.items k ≡ Some other → no_help l.slot l.claim other ≡ true
