-- The entries of a catalogue, by their places and by their names.
use Rattle.std.proofs.Common.{rules, ◌≡◌, ◌⊎◌, inl, inr, ℕ, suc, zero, ◌<◌, ◌≤◌, true, false, List, [], ◌∷◌, ◌++◌, length, refl, ap, Some}
use Rattle.std.proofs.Common.{None, slice_index_or, slice_get, length-append, arith, string_bytes, ◌+◌, Option, is_some, IfSome}
use Rattle.std.proofs.lemmas.List.{get_or-map, length-map}
use Rattle.std.proofs.lemmas.List.Elements.{All-push}
use Rattle.std.proofs.lemmas.Option.{slice_get-map, slice_get_past, slice_get_read}
use Rattle.std.proofs.lemmas.Bool.{or_parts}
use Rattle.std.proofs.lemmas.Slice.Eq.{bytes_eq-Decides}
use Rattle.std.proofs.lemmas.Grind.{common_steps}
use Rattle.std.specs.Str.{bytes_eq}
use Rattle.std.specs.Prelude.{IsTrue, cond}
use Rattle.fx_base.specs.Name.{is_name}
use Rattle.fx_base.specs.Catalogue.{FileEntry, IsCatalogue, name_at, size_at}
use Rattle.fx_base.specs.AddFault.{add_fault_of, has_name}
use Rattle.fx_base.specs.CatalogueView.{file_entries_of, file_entry_of}
use Rattle.fx_base.specs.declared.catalogue.Entry.{Entry}
use Rattle.fx_base.specs.declared.catalogue.TheConstants.{MOST_ENTRIES, LONGEST_ENTRY}
use Rattle.std.specs.List.{position_from}

-- a name's place in a longer catalogue is its place in the old one, or that of the new entry
either_place : (xs : List FileEntry) (y : FileEntry) (i : ℕ) (name : List ℕ) → name_at (xs ++ y ∷ []) i ≡ Some name
    → (name_at xs i ≡ Some name) ⊎ ((i ≡ length xs) × (y.name ≡ name))
either_place [] y zero name is = inr (refl, cc)
either_place [] y (suc i) name is = cc
either_place (x ∷ xs) y zero name is = inl is
either_place (x ∷ xs) y (suc i) name is = elim (either_place xs y i name is) [ inl old ↦ inl old | inr new ↦ inr (ap suc new.0, new.1) ]

-- the place of a name is below the length of the catalogue
pub entry_named : (catalogue : List FileEntry) (entry : ℕ) (name : List ℕ) → name_at catalogue entry ≡ Some name → entry < length catalogue
entry_named catalogue entry name is = grind (arith, slice_get_past)

-- a name that no entry has is found at no place
not_named : (catalogue : List FileEntry) (name : List ℕ) → has_name name catalogue ≡ false → (i : ℕ) → name_at catalogue i ≡ Some name → ⊥
not_named [] name new i is = cc
not_named (x ∷ xs) name new zero is = grind (arith, bytes_eq-Decides, or_parts)
not_named (x ∷ xs) name new (suc i) is = not_named xs name (or_parts _ _ new).1 i is

-- a new name keeps the names distinct
pub still_distinct : (catalogue : List FileEntry) (y : FileEntry)
    → ((i j : ℕ) (name : List ℕ) → name_at catalogue i ≡ Some name → name_at catalogue j ≡ Some name → i ≡ j) → has_name y.name catalogue ≡ false
    → (i j : ℕ) (name : List ℕ) → name_at (catalogue ++ y ∷ []) i ≡ Some name → name_at (catalogue ++ y ∷ []) j ≡ Some name → i ≡ j
still_distinct catalogue y distinct new i j name at_i at_j = grind (arith, either_place, not_named)

-- an entry that was read has its size and its name, and both are within the limits of a catalogue
pub record IsRead (catalogue : List FileEntry) (i : ℕ) (e : Entry) : Type 0 where
  pub size : size_at catalogue i ≡ Some (length e.bytes.items)
  pub small : length e.bytes.items ≤ LONGEST_ENTRY
  pub name : name_at catalogue i ≡ Some (string_bytes e.name)
  pub named : IsTrue (is_name (string_bytes e.name))

pub read_at : (entries : List Entry) {catalogue : List FileEntry} {i : ℕ} {e : Entry} → file_entries_of entries ≡ catalogue
    → IsCatalogue (file_entries_of entries) → i < length catalogue → e ≡ slice_index_or entries i e → IsRead catalogue i e
read_at entries {i = i} {e = e} seen good inside is =
    let within : i < length (file_entries_of entries) = rw seen inside in
    let low : i < length entries = simp length-map at within in
    let at : slice_get (file_entries_of entries) i ≡ Some (file_entry_of e) =
    rw (slice_get-map, slice_get_read entries (length entries) i e refl low is) refl in
    grind (arith, get_or-map file_entry_of entries i e (file_entry_of e) low, good.small i (file_entry_of e) within, good.named i (file_entry_of e) within)

-- a catalogue with one more entry is a catalogue
pub one_more : (catalogue : List FileEntry) (y : FileEntry) → IsCatalogue catalogue → length catalogue < MOST_ENTRIES → length y.bytes ≤ LONGEST_ENTRY
    → is_name y.name ≡ true → has_name y.name catalogue ≡ false → IsCatalogue (catalogue ++ y ∷ [])
one_more catalogue y good few small named new = record {
  few = simp length-append (omega arith);
  small = All-push (λ (x : FileEntry). length x.bytes ≤ LONGEST_ENTRY) catalogue y good.small small;
  named = All-push (λ (x : FileEntry). IsTrue (is_name x.name)) catalogue y good.named (search (rules, named));
  distinct = still_distinct catalogue y good.distinct new;
}

-- a file without a fault is within each limit of a catalogue
pub record HasNoFault (catalogue : List FileEntry) (name bytes : List ℕ) : Type 0 where
  pub few : length catalogue < MOST_ENTRIES
  pub named : is_name name ≡ true
  pub new : has_name name catalogue ≡ false
  pub small : length bytes ≤ LONGEST_ENTRY

pub no_fault : (catalogue : List FileEntry) (name bytes : List ℕ) → add_fault_of catalogue name bytes ≡ None → HasNoFault catalogue name bytes
no_fault catalogue name bytes none = grind (arith, common_steps)

-- The place of a name among the entries of a catalogue.

-- the place of a name, counted from i
abbrev pub place_from : List ℕ → ℕ → List FileEntry → Option ℕ
place_from name i catalogue = position_from (λ file. bytes_eq file.name name) i catalogue

-- if a name is found at a place, the entry at that place has it
module _ (name : List ℕ) where
  abbrev pub Stands : ℕ → ℕ → List FileEntry → Type 0
  Stands i k catalogue = (j : ℕ) × (k ≡ i + j) × (j < length catalogue) × (name_at catalogue j ≡ Some name)

  pub name_at-place_from : (i k : ℕ) (catalogue : List FileEntry) → place_from name i catalogue ≡ Some k → Stands i k catalogue
  name_at-place_from i k [] is = cc
  name_at-place_from i k (x ∷ xs) is =
      elim (bytes_eq x.name name) as (λ b. bytes_eq x.name name ≡ b → cond b (Some i) (place_from name (i + 1) xs) ≡ Some k → Stands i k (x ∷ xs)) [
        | true ↦ λ here found. let e : i ≡ k = cc in (0, omega arith, omega arith, ap Some ((bytes_eq-Decides x.name name).0 here))
        | false ↦ λ other found. let (j, at, inside, named) = name_at-place_from (i + 1) k xs found in
            (suc j, omega (arith, at), omega (arith, inside), named)
      ] refl is

-- the place found for a name is below the length of the catalogue, and its entry has the name
pub found_there : (name : List ℕ) (catalogue : List FileEntry) {found : Option ℕ} → found ≡ place_from name 0 catalogue
    → IfSome found (λ entry. name_at catalogue entry ≡ Some name) × IfSome found (λ entry. entry < length catalogue)
found_there name catalogue {found} is = grind (arith, name_at-place_from)

-- a name is found if and only if an entry has it
pub is_some-place_from : (name : List ℕ) (i : ℕ) (catalogue : List FileEntry) → is_some (place_from name i catalogue) ≡ has_name name catalogue
is_some-place_from name i [] = refl
is_some-place_from name i (x ∷ xs) = let rest = is_some-place_from name (i + 1) xs in grind arith

-- a new entry with a new name is found after the others, and the others are found where they were
pub place_from-push : (name : List ℕ) (i : ℕ) (catalogue : List FileEntry) (y : FileEntry) → has_name y.name catalogue ≡ false
    → place_from name i (catalogue ++ y ∷ []) ≡ cond (bytes_eq y.name name) (Some (i + length catalogue)) (place_from name i catalogue)
place_from-push name i [] y new = let e : i ≡ i + 0 = omega arith in ap (λ (k : ℕ). cond (bytes_eq y.name name) (Some k) None) e
place_from-push name i (x ∷ xs) y new =
    let (here, later) = or_parts (bytes_eq x.name y.name) (has_name y.name xs) new in
    let rest = place_from-push name (i + 1) xs y later in grind (arith, bytes_eq-Decides)
