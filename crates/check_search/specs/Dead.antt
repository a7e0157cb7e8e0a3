-- A claim that waits for a file that doesn't come.
use Rattle.std.specs.Prelude.{◌≡◌, ◌⊎◌, ◌≤◌, ◌==◌, ◌||◌}
use Rattle.check_search.specs.Words.{ℕ, not, Bool, true, false, List, slice_get, slice_index, Some}
use Rattle.check_search.specs.Words.{None, Claim, At, Full, Same, Empty, File, Strand}
use Rattle.check_search.specs.Machine.{Standing, cell_at, may_find, may_leave}

-- the other claim changes nothing at the slot, or leaves what the claim may not be made with
abbrev pub no_help : ℕ → Claim → Claim → Bool
no_help slot claim (At at condition Same) = true
no_help slot claim (At at condition Empty) = not (at == slot) || not (may_find claim None)
no_help slot claim (At at condition (File resident)) =
    not (at == slot) || not (may_find claim (Some resident))
no_help slot claim Full = true

-- no claim that is still to be made helps
abbrev pub NoneHelps : List Strand → List ℕ → ℕ → Claim → Type 0
NoneHelps strands places slot claim = (c k : ℕ) (strand : Strand) (other : Claim)
    → slice_get strands c ≡ Some strand → slice_index places c ≤ k
    → slice_get strand.claims.items k ≡ Some other → no_help slot claim other ≡ true

-- the claim may not be made with the slot's file, and that stays, or none that may follow fits
pub record IsHopeless (strands : List Strand) (at : Standing) (slot : ℕ) (claim : Claim)
    : Type 0 where
  pub unfit : may_find claim (cell_at at.cells slot) ≡ false
  pub stays : (may_leave (cell_at at.cells slot) ≡ false) ⊎ NoneHelps strands at.places slot claim
