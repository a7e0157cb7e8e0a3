-- The entries of an update, by their sign, and how a list of them goes on.
use Rattle.fx_chain.proofs.Words.{common_steps, ◌≡◌, ℕ, ◌+◌, ◌<◌, false, ℤ, pos, negsuc, int_le, int_lt, List, [], ◌∷◌, ◌++◌, length, take, drop}
use Rattle.fx_chain.proofs.Words.{refl, arith, ◌▷▷◌, slice_index_or, append-nil, length-take-le, take_more, filter-append, Action, AppliesEntry}
use Rattle.fx_chain.proofs.Words.{AppliesList, Opening, is_bad_entry, PlayerView, ActsSo, entry_installs, list_installs, Place, drop-cons}
use Rattle.fx_chain.proofs.Words.{append_assoc, length-append}
use Rattle.fx_chain.proofs.ActsInTurn.{so_then}

-- a list with an entry before it, and one with an entry after it
pub list_installs-cons : (z : ℤ) (list : List ℤ) → list_installs (z ∷ list) ≡ entry_installs z + list_installs list
list_installs-cons z list = grind arith

pub list_installs-push : (list : List ℤ) (z : ℤ) → list_installs (list ++ z ∷ []) ≡ list_installs list + entry_installs z
list_installs-push list z = grind (arith, filter-append, length-append)

-- an entry that is neither installed nor emptied leaves its slot
pub leaves_slot : (place : Place) (in_list slot entries : ℕ) (z : ℤ) → is_bad_entry entries z ≡ false → int_le (pos 0) z ≡ false
    → int_lt (negsuc 1) z ≡ false → AppliesEntry place in_list slot z []
leaves_slot place in_list slot entries z good low high = grind arith

-- the entries of a list, and then one more
applies_more : (place : Place) (in_list slot : ℕ) (list : List ℤ) (z : ℤ) (at to : ℕ) (events own : List Action) → at ≡ in_list + length list
    → to ≡ slot + length list → AppliesList place in_list slot list events → AppliesEntry place at to z own
    → AppliesList place in_list slot (list ++ z ∷ []) (events ▷▷ own)
applies_more place in_list slot [] z at to events own at_is to_is none applies =
    let same_place : at ≡ in_list = omega arith in
    let same_slot : to ≡ slot = omega arith in (grind (arith, none, append-nil, same_place, same_slot))
applies_more place in_list slot (x ∷ list) z at to events own at_is to_is (first, others, is, front, rest) applies =
    grind (arith, append_assoc, applies_more place (in_list + 1) (slot + 1) list z at to others own)

-- the entries that are left install what this one and the later ones do
pub installs_left : (list : List ℤ) (i : ℕ) → i < length list → list_installs (drop i list)
    ≡ entry_installs (slice_index_or list i (pos 0)) + list_installs (drop (i + 1) list)
installs_left list i inside = grind (arith, drop-cons)

-- the first entries were applied, and then the next one
pub applies_next : {o : Opening} {p q r : PlayerView} (place : Place) (off : ℕ) (list : List ℤ) (i : ℕ) → i < length list
    → ActsSo o p 0 (list_installs (take i list)) i (AppliesList place 0 off (take i list)) q
    → ActsSo o q 0 (entry_installs (slice_index_or list i (pos 0))) 1 (AppliesEntry place i (off + i) (slice_index_or list i (pos 0))) r
    → ActsSo o p 0 (list_installs (take (i + 1) list)) (i + 1) (AppliesList place 0 off (take (i + 1) list)) r
applies_next place off list i inside done own =
    let entry = slice_index_or list i (pos 0) in grind (arith, common_steps, take_more, list_installs-push, so_then, applies_more)
