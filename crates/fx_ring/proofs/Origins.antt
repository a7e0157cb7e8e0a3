-- Where the files of a ring come from, and how a file leaves its slot.
use Rattle.fx_ring.proofs.Words.{◌≡◌, ℕ, ◌+◌, Bool, List, ◌++◌, length, refl, sym, ap, subst, ◌∙◌, Option, Some, None, option_to_list, CloseListView}
use Rattle.fx_ring.proofs.Words.{Closed, File, State, IsSettled, changed_at, with_removed, files_at, Leads, close_of, identity_of, number_of, ◌≢◌, ℤ}
use Rattle.fx_ring.proofs.Words.{more_leaving, by_equality, changed_here, changed_else, SetsSlot, CanRetire, closes_of_removed, file_removed, ◌⊎◌, []}
use Rattle.fx_ring.proofs.Words.{zero, suc, ◌-◌, ◌<◌, ◌≤◌, false, pos, negsuc, ◌∷◌, length-append, All, slice_get, inl, inr, ⊎_elim, arith, list_any}
use Rattle.fx_ring.proofs.Words.{cases_lt, leb-false, All-append, Mark, Registered, is_bad_entry, RingState, IsRing, HasCounted, file_listed, updated}
use Rattle.fx_ring.proofs.Words.{removed_by_number, removed_from, registered, is_bad_file, tag_at, IsPermutation, IsInOrderOfMark, state_of, ring_of}
use Rattle.fx_ring.proofs.Words.{RingContents, ListsFiles, with_table, SetsList}
use Rattle.fx_ring.proofs.ListSteps.{good_get, good_files, files_below, files_from}
use Rattle.fx_ring.proofs.Rings.{IsEntry, counted_still, entry_listed, none_rings, lists_files}

-- the files of changed slots, their numbers aside
files_changed : (at : ℕ → Option File) (slot : ℕ) (x : Option File)
    → (λ (s : ℕ). identity_of (changed_at at slot x s)) ≡ changed_at (λ s. identity_of (at s)) slot (identity_of x)
files_changed at slot x = grind (arith, by_equality)

-- a file that left a settled table may be retired
pub can_retire : {first : State} (before : State) {leaves : ℕ → Bool} (going : ℕ → Bool) (removed : Option File) {number : Option ℕ}
    → IsSettled first → before.holds ≡ first.holds → leaves ≡ more_leaving going removed → number ≡ number_of removed
    → CanRetire leaves before number
can_retire before going removed s holds left is = grind (arith, changed_here)

-- what was removed is found by its number
removed_found : (first before : State) (removed : Option File) → before.removed ≡ with_removed first.removed removed
    → (file_removed before (number_of removed) ≡ identity_of removed) × (closes_of_removed before (number_of removed) ≡ close_of removed)
removed_found first before removed out = grind (arith, changed_here)

-- once it is closed, nothing is removed any more
closed_up : {first before last : State} (removed : Option File) → IsSettled first → before.removed ≡ with_removed first.removed removed
    → Leads before (close_of removed) last → (gone : ℕ → Option File) × (last ≡ record before { removed = gone }) × ((n : ℕ) → gone n ≡ None)
closed_up {before} None s out lead = (before.removed, lead.1, λ n. ap (λ (r : ℕ → Option File). r n) out ∙ s.closed n)
closed_up {first} {before} (Some f) s out lead = grind (arith, by_equality, changed_else)

-- the effect of a removal at a slot and of the close after it, as the calls make them
pub removed_and_closed : {first before last : State} {slot : ℕ} (x there : Option File) {fresh : ℕ → Bool} {removed : Option ℕ}
    {earlier : CloseListView} (closed : CloseListView) → IsSettled first → first.at slot ≡ there → removed ≡ number_of there
    → before ≡ record first { at = changed_at first.at slot x; fresh = fresh; removed = with_removed first.removed there }
    → Leads before (closes_of_removed before removed) last
    → closed.files ≡ earlier.files ++ option_to_list (file_removed before removed)
    → closed.room + length (option_to_list (file_removed before removed)) ≡ earlier.room
    → SetsSlot first last slot (identity_of x) earlier closed × (last.fresh ≡ fresh)
removed_and_closed x there closed settled was is step lead files room = grind (arith, removed_found, closed_up, files_changed)

-- Where the files of a ring come from, once a list was applied.

-- a file that the k-th list installed at its place i
abbrev IsListed : ℕ → ℕ → ℕ → Closed → Type 0
IsListed entries k i file = (file.mark ≡ Registered k i) × (file.entry < entries)

from_listed : {entries k i : ℕ} (tag : ℕ) (x : Option ℤ) {before : Option Closed} {file : Closed}
    → ((z : ℤ) → x ≡ Some z → is_bad_entry entries z ≡ false) → file_listed k i tag x before ≡ Some file
    → (before ≡ Some file) ⊎ IsListed entries k i file
from_listed tag None good is = inl is
from_listed {entries} {k} {i} tag (Some (pos e)) {file} good is =
    let made : Closed = record { mark = Registered k i; entry = e; tag = tag } in
    let same : made ≡ file = cc in
    inr (ap (λ (f : Closed). f.mark) (sym same), subst (λ (f : Closed). f.entry < entries) same (leb-false entries e (good (pos e) refl)))
from_listed tag (Some (negsuc zero)) good is = cc
from_listed tag (Some (negsuc (suc n))) good is = inl is

-- no counted mark is one of the next list
not_counted : (ring : RingState) (mark : Mark) (i : ℕ) → HasCounted ring mark → mark ≢ Registered (ring.registrations + 1) i
not_counted ring mark i counted = grind arith

module _ (ring : RingState) (off : ℕ) (list : List ℤ) (tags : List ℕ) (is : IsRing ring)
    (good : list_any (is_bad_entry (length ring.catalogue)) list ≡ false) where
  -- a file was there before, or the list installed it
  origin : {slot : ℕ} {file : Closed} → (updated ring off list tags).at slot ≡ Some file
      → (ring.at slot ≡ Some file) ⊎ ((off ≤ slot) × IsListed (length ring.catalogue) (ring.registrations + 1) (slot - off) file)
  origin {slot} at = elim (cases_lt slot off) [
    | inl below ↦ inl (sym (files_below (ring.registrations + 1) ring.at off list tags slot below) ∙ at)
    | inr above ↦ ⊎_elim (λ was. inl was) (λ new. inr (above, new))
        (from_listed (tag_at tags (slot - off)) (slice_get list (slot - off))
        (λ z at_z. good_get (length ring.catalogue) list (slot - off) good at_z)
        (sym (files_from (ring.registrations + 1) ring.at off list tags slot above) ∙ at))
  ]

  pub updated_rings : IsRing (updated ring off list tags)
  updated_rings = grind (arith, origin, counted_still, not_counted)

pub registered_rings : (ring : RingState) (list : List ℤ) (tags : List ℕ)
    → list_any (is_bad_file (length ring.catalogue)) list ≡ false → IsRing (registered ring list tags)
registered_rings ring list tags good = updated_rings (record ring { size = length list; range = (0, length list); at = λ _. None }) 0 list tags
    (none_rings _ refl) (good_files (length ring.catalogue) list good)

-- what a list removes is of the catalogue, where all was
removed_entries_by : {entries : ℕ} (z : ℤ) {x : Option Closed}
    → ((file : Closed) → x ≡ Some file → IsEntry entries file) → All (IsEntry entries) (removed_by_number z x)
removed_entries_by z has = grind (arith, entry_listed)

pub removed_entries : (entries : ℕ) (at : ℕ → Option Closed) (slot : ℕ) (list : List ℤ)
    → ((s : ℕ) (file : Closed) → at s ≡ Some file → IsEntry entries file) → All (IsEntry entries) (removed_from at slot list)
removed_entries entries at slot [] has = λ k d inside. absurd (omega arith)
removed_entries entries at slot (z ∷ list) has =
    All-append (IsEntry entries) (removed_by_number z (at slot)) (removed_from at (slot + 1) list)
    (removed_entries_by z (has slot)) (removed_entries entries at (slot + 1) list has)

none_removed_by : (z : ℤ) → removed_by_number z None ≡ []
none_removed_by z = grind arith

-- nothing is removed where there are no files
pub none_removed : (slot : ℕ) (list : List ℤ) → removed_from (λ _. None) slot list ≡ []
none_removed slot [] = refl
none_removed slot (z ∷ list) = ap (λ (x : List Closed × List Closed). x.0 ++ x.1) (λ i. (none_removed_by z i, none_removed (slot + 1) list i))

one_removed_by : (z : ℤ) (x : Option Closed) → length (removed_by_number z x) ≤ 1
one_removed_by z x = grind arith

-- a list removes no more files than it has numbers
pub few_removed : (at : ℕ → Option Closed) (slot : ℕ) (list : List ℤ) → length (removed_from at slot list) ≤ length list
few_removed at slot [] = omega arith
few_removed at slot (z ∷ list) =
    let both = length-append (removed_by_number z (at slot)) (removed_from at (slot + 1) list) in
    omega (arith, one_removed_by z (at slot), few_removed at (slot + 1) list, both)

-- A ring whose table has had a list applied.

module _ (c : RingContents) (off : ℕ) (list : List ℤ) (tags : List ℕ) {new : State} {given closes : CloseListView}
    (sets : SetsList (c.registrations + 1) off list tags (state_of c.table) new given closes) where
  -- the slots have the files that they should have
  pub is_updated : with_table (record (ring_of c) { registrations = c.registrations + 1 }) new ≡ updated (ring_of c) off list tags
  is_updated = λ i. record (ring_of c) { size = sets.size i; range = sets.range i; at = sets.at_slots i; registrations = c.registrations + 1 }

  module _ (ring : IsRing (ring_of c)) where
    pub ring_updated : list_any (is_bad_entry (length c.catalogue)) list ≡ false
        → IsRing (with_table (record (ring_of c) { registrations = c.registrations + 1 }) new)
    ring_updated good = subst IsRing (sym is_updated) (updated_rings (ring_of c) off list tags ring good)

    -- and the list has those that were there
    pub list_updated : {sorted : CloseListView} → given.files ≡ [] → IsPermutation closes.files sorted.files → IsInOrderOfMark sorted.files
        → ListsFiles (ring_of c) (removed_from (ring_of c).at off list) sorted
    list_updated none = lists_files (ring_of c) (removed_entries (length c.catalogue) (ring_of c).at off list ring.entries)
        (sets.closed ∙ ap (λ (l : List Closed). l ++ removed_from (files_at (state_of c.table)) off list) none)
