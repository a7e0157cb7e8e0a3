-- The names of a catalogue; and the entries of an update that aren't skips: their positions, and
-- their number.
use Rattle.fx_chain.proofs.Words.{common_steps, ◌≡◌, ℕ, suc, ◌+◌, ◌<◌, ℤ, negsuc, int_le, Bool, if◌then◌else◌, List, [], ◌∷◌, ◌++◌, length, filter}
use Rattle.fx_chain.proofs.Words.{refl, Option, Some, arith, take, take_more, length-take-le, append-nil, append_assoc, slice_index_or, cases_Bool}
use Rattle.fx_chain.proofs.Words.{FileEntry, true, zero, has_name, name_at, add-zero, bytes_eq-Decides, positions_from}

-- the name of an entry is one of the catalogue
pub has_its_name : (catalogue : List FileEntry) (entry : ℕ) (name : List ℕ) → name_at catalogue entry ≡ Some name → has_name name catalogue ≡ true
has_its_name [] entry name is = absurd (cc)
has_its_name (x ∷ xs) zero name is = grind (arith, bytes_eq-Decides)
has_its_name (x ∷ xs) (suc entry) name is = grind (arith, cases_Bool, has_its_name xs entry name is)

-- the position of an entry that isn't a skip
abbrev position_at : ℕ → ℤ → List (Option ℕ)
position_at in_list entry = if int_le (negsuc 0) entry then Some in_list ∷ [] else []

-- as many positions as entries that aren't skips
pub length_positions : (in_list : ℕ) (list : List ℤ)
    → length (positions_from in_list list) ≡ length (filter (λ entry. int_le (negsuc 0) entry) list)
length_positions in_list [] = refl
length_positions in_list (entry ∷ list) = grind (arith, cases_Bool, length_positions (in_list + 1) list)

one_more : (in_list : ℕ) (list : List ℤ) (entry : ℤ)
    → positions_from in_list (list ++ entry ∷ []) ≡ positions_from in_list list ++ position_at (in_list + length list) entry
one_more in_list [] entry = rw (add-zero, append-nil)
one_more in_list (x ∷ list) entry = grind (arith, append_assoc, one_more (in_list + 1) list entry)

-- with the position of the next entry
pub positions_more : (list : List ℤ) {i : ℕ} (d : ℤ) {b : Bool} {old new : List (Option ℕ)} → i < length list
    → int_le (negsuc 0) (slice_index_or list i d) ≡ b → old ≡ positions_from 0 (take i list) → new ≡ old ++ (if b then Some i ∷ [] else [])
    → new ≡ positions_from 0 (take (i + 1) list)
positions_more list {i} d inside is so_far more =
    let e : 0 + length (take i list) ≡ i = omega (arith, length-take-le i list (omega arith)) in grind (arith, common_steps, take_more, one_more)
