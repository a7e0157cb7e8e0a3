-- From a state where a claim waits for a file that doesn't come, no end is reached.
use Rattle.check_search.specs.Machine.{HasNoEnd}
use Rattle.check_search.proofs.Words.{◌≡◌, ◌⊎◌, inl, inr, ⊎_elim, ℕ, zero, suc, ◌<◌, ◌≤◌, true, false, List, [], ◌∷◌, true≢false, slice_get-get_or}
use Rattle.check_search.proofs.Words.{slice_get_read, slice_get_within, refl, sym, ap, ◌∙◌, arith, Option, Some, None, slice_get, slice_index}
use Rattle.check_search.proofs.Words.{slice_set, slice_index_or, length, option_and_then, by_equality, IsHopeless, NoneHelps, may_find, no_help}
use Rattle.check_search.proofs.Words.{Standing, allows, cell_at, cells_after, claim_at, may_leave, with_cell, slot_claimed, Cell, Claim, At, Leaves}
use Rattle.check_search.proofs.Words.{Resident, Condition, Strand}
use Rattle.check_search.proofs.Reaching.{after, both_steps, none_ends}

-- what is at a slot once one was written: what was there, or what was written
pub written : (cells : List Cell) (s : ℕ) (x : Option Resident) (slot : ℕ)
    → (cell_at (with_cell cells s x) slot ≡ cell_at cells slot) ⊎ ((s ≡ slot) × (cell_at (with_cell cells s x) slot ≡ x))
written [] s x slot = inl refl
written (cell ∷ cells) s x slot = grind (arith, by_equality, written cells s x slot)

-- the number at a place of a list once one was written
index_written : (l : List ℕ) (c x e : ℕ) → (slice_index (slice_set l c x) e ≡ slice_index l e) ⊎ ((e ≡ c) × (slice_index (slice_set l c x) e ≡ x))
index_written (a ∷ l) zero x zero = inr (refl, refl)
index_written (a ∷ l) (suc c) x (suc e) = ⊎_elim (λ same. inl same) (λ is. inr (ap suc is.0, is.1)) (index_written l c x e)
index_written l c x e = inl refl

-- no list ends before a place that it has
past_none : {X : Type 0} (xs : List X) (i k : ℕ) (x : X) → i ≤ k → slice_get xs k ≡ Some x → slice_get xs i ≡ None → ⊥
past_none xs i k x le is none = let lt = slice_get_within xs k x is in let some = slice_get-get_or xs i x (omega arith) in cc

-- what a claim made of a slot: it was left, or it could be removed, and what was brought doesn't
-- help
abbrev Unfit : List Cell → ℕ → Claim → Option Resident → Type 0
Unfit cells slot claim now = (now ≡ cell_at cells slot) ⊎ ((may_find claim now ≡ false) × (may_leave (cell_at cells slot) ≡ true))

stays_unfit : (cells : List Cell) (slot : ℕ) (claim step : Claim) → allows cells step ≡ true
    → (may_leave (cell_at cells slot) ≡ false) ⊎ (no_help slot claim step ≡ true) → Unfit cells slot claim (cell_at (cells_after cells step) slot)
stays_unfit cells slot claim step may either = grind (arith, written)

-- a claim of a chain that may be made next
module _ (strands : List Strand) (at : Standing) (d : ℕ) (step : Claim) (is_next : claim_at strands at.places d ≡ Some step)
    (may : allows at.cells step ≡ true) where
  none_still : (slot : ℕ) (claim : Claim) → NoneHelps strands at.places slot claim → NoneHelps strands (after at d step).places slot claim
  none_still slot claim none e k strand other there late is = grind (arith, index_written)

  -- what is hopeless stays so
  hopeless_then : (slot : ℕ) (claim : Claim) → IsHopeless strands at slot claim → IsHopeless strands (after at d step) slot claim
  hopeless_then slot claim hopeless =
      let own = both_steps (λ (s : Strand). slice_get s.claims.items (slice_index at.places d)) (slice_get strands d) step is_next in
      let either : (may_leave (cell_at at.cells slot) ≡ false) ⊎ (no_help slot claim step ≡ true) =
      ⊎_elim (λ stays. inl stays) (λ none. inr (none d (slice_index at.places d) own.0 step own.1 (omega arith) own.2)) hopeless.stays in
      elim (stays_unfit at.cells slot claim step may either) [
        | inl same ↦ record {
          unfit = ap (may_find claim) same ∙ hopeless.unfit;
          stays = ⊎_elim (λ stays. inl (ap may_leave same ∙ stays)) (λ none. inr (none_still slot claim none)) hopeless.stays;
        }
        | inr bad ↦ record {
          unfit = bad.0;
          stays = ⊎_elim (λ stays. absurd (true≢false (sym bad.1 ∙ stays))) (λ none. inr (none_still slot claim none)) hopeless.stays;
        }
      ]

module _ (strands : List Strand) (c k slot : ℕ) (strand : Strand) (condition : Condition) (leaves : Leaves)
    (is : slice_get strands c ≡ Some strand) (waits : slice_get strand.claims.items k ≡ Some (At slot condition leaves)) where
  at_place : (places : List ℕ) → claim_at strands places c ≡ slice_get strand.claims.items (slice_index places c)
  at_place places = ap (option_and_then (λ (s : Strand). slice_get s.claims.items (slice_index places c))) is

  -- it isn't the one that is made
  still : (at : Standing) (d : ℕ) (step : Claim) → claim_at strands at.places d ≡ Some step → allows at.cells step ≡ true
      → slice_index at.places c ≤ k → may_find (At slot condition leaves) (cell_at at.cells slot) ≡ false → slice_index (after at d step).places c ≤ k
  still at d step is_next may early unfit = grind (arith, index_written, at_place, allows)

  pub never_ends : (at : Standing) → slice_index at.places c ≤ k → IsHopeless strands at slot (At slot condition leaves) → HasNoEnd strands at
  unfolding HasNoEnd
  never_ends at early hopeless = none_ends strands
      (λ x. (slice_index x.places c ≤ k) × IsHopeless strands x slot (At slot condition leaves))
      (λ x so end. past_none strand.claims.items (slice_index x.places c) k (At slot condition leaves) so.0 waits (sym (at_place x.places) ∙ end.over c))
      (λ x d step is_next may so.
      (still x d step is_next may so.0 so.1.unfit, hopeless_then strands x d step is_next may slot (At slot condition leaves) so.1)) at (early, hopeless)

-- the element that was read at a place
pub get_at : {X : Type 0} (xs : List X) (k : ℕ) (x : X) → k < length xs → x ≡ slice_index_or xs k x → slice_get xs k ≡ Some x
get_at xs k x lt is = slice_get_read xs (length xs) k x refl lt is

-- a claim of a slot that is still to be made, and hopeless
pub vain : (strands : List Strand) (at : Standing) (c k slot : ℕ) (strand : Strand) (claim : Claim) → slot_claimed claim ≡ Some slot
    → slice_get strands c ≡ Some strand → slice_index at.places c ≤ k → slice_get strand.claims.items k ≡ Some claim
    → IsHopeless strands at slot claim → HasNoEnd strands at
vain strands at c k slot strand claim of is early waits hopeless = grind (arith, never_ends)
