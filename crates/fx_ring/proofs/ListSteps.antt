-- Lists that are applied to slots, one number after another.
use Rattle.fx_ring.proofs.Words.{common_steps, ◌≡◌, ℕ, zero, suc, ◌==◌, ◌||◌, not, Bool, false, ℤ, pos, negsuc, List, [], ◌∷◌, length, refl, ap, ◌∙◌}
use Rattle.fx_ring.proofs.Words.{eq-eqb, zip, length-map, list_any, are_bad_tags, is_bad_tag, no_tags, tag_at, sym, Some, slice_get, arith, le-ltb}
use Rattle.fx_ring.proofs.Words.{is_bad_entry, is_bad_file, or_from, or_parts, ◌+◌, ◌-◌, ◌<◌, ◌≤◌, if◌then◌else◌, ◌++◌, nat_lt, length-append, Option}
use Rattle.fx_ring.proofs.Words.{append_assoc, append-nil, drop, slice_index_or, lt-ltb, slice_get_past, drop-cons, CloseListView, Registered, Closed}
use Rattle.fx_ring.proofs.Words.{State, IsSettled, changed_at, by_equality, file_after, file_listed, files_after, removed_by_number, removed_from}
use Rattle.fx_ring.proofs.Words.{files_at, SetsList, SetsNumber, drop-length, slice_get-get_or, nat_tests}

none_bad : (list : List ℤ) → list_any (λ pair. is_bad_tag pair.0 pair.1) (zip list (no_tags list)) ≡ false
none_bad [] = refl
none_bad (pos entry ∷ list) = none_bad list
none_bad (negsuc n ∷ list) = none_bad list

-- they are as many as the numbers, and no number below 0 has one
pub no_bad_tags : (list : List ℤ) → are_bad_tags list (no_tags list) ≡ false
no_bad_tags list = grind (arith, common_steps, none_bad)

-- each of them is 0
pub no_tag_at : (list : List ℤ) (i : ℕ) → tag_at (no_tags list) i ≡ 0
no_tag_at [] i = refl
no_tag_at (number ∷ list) zero = refl
no_tag_at (number ∷ list) (suc i) = no_tag_at list i

-- The numbers of a list, by their sign.

good_file : (entries : ℕ) (z : ℤ) → is_bad_file entries z ≡ false → is_bad_entry entries z ≡ false
good_file entries z good = grind arith

-- what a registration takes, an update takes
pub good_files : (entries : ℕ) (list : List ℤ) → list_any (is_bad_file entries) list ≡ false → list_any (is_bad_entry entries) list ≡ false
good_files entries [] good = refl
good_files entries (z ∷ list) good = or_from _ _ (good_file entries z (or_parts _ _ good).0) (good_files entries list (or_parts _ _ good).1)

-- a number of a good list is good
pub good_get : (entries : ℕ) (list : List ℤ) (j : ℕ) {z : ℤ} → list_any (is_bad_entry entries) list ≡ false
    → slice_get list j ≡ Some z → is_bad_entry entries z ≡ false
good_get entries [] j good is = cc
good_get entries (y ∷ list) zero {z} good is = let same : y ≡ z = cc in ap (is_bad_entry entries) (sym same) ∙ (or_parts _ _ good).0
good_get entries (y ∷ list) (suc j) {z} good is = good_get entries list j (or_parts _ _ good).1 is

-- The effect of a list, one number further.

module _ (k : ℕ) (at : ℕ → Option Closed) (off : ℕ) (list : List ℤ) (tags : List ℕ) where
  pub files_below : (slot : ℕ) → slot < off → files_after k at off list tags slot ≡ at slot
  files_below slot below = rw (lt-ltb slot off below) refl

  pub files_from : (slot : ℕ) → off ≤ slot
      → files_after k at off list tags slot ≡ file_listed k (slot - off) (tag_at tags (slot - off)) (slice_get list (slot - off)) (at slot)
  files_from slot above = rw (le-ltb slot off above) refl

  -- past its end a list has done nothing
  pub files_past : (slot : ℕ) → off + length list ≤ slot → files_after k at off list tags slot ≡ at slot
  files_past slot past = grind (arith, files_from, slice_get_past)

  -- the file at each slot once this number of the list's first numbers are applied
  abbrev pub files_upto : ℕ → ℕ → Option Closed
  files_upto i slot = if nat_lt slot (off + i) then files_after k at off list tags slot else at slot

  pub upto_none : files_upto 0 ≡ at
  upto_none = λ j slot. let e : files_upto 0 slot ≡ at slot = grind (arith, nat_tests, files_below) in e j

  pub upto_all : files_upto (length list) ≡ files_after k at off list tags
  upto_all = λ j slot. let e : files_upto (length list) slot ≡ files_after k at off list tags slot = grind (arith, nat_tests, files_past) in e j

  module _ (i : ℕ) (z : ℤ) (inside : i < length list) (is : z ≡ slice_index_or list i (pos 0)) where
    -- the next slot is as it was
    pub upto_here : files_upto i (off + i) ≡ at (off + i)
    upto_here = rw (le-ltb (off + i) (off + i) (omega arith)) refl

    pub upto_next : files_upto (i + 1) ≡ changed_at (files_upto i) (off + i) (file_after (Registered k i) (tag_at tags i) z (at (off + i)))
    upto_next = grind (arith, by_equality, files_from, slice_get-get_or)

    -- the files that the rest of the list removes, with the next number before it
    pub removed_next : removed_from at (off + i) (drop i list) ≡ removed_by_number z (at (off + i)) ++ removed_from at (off + (i + 1)) (drop (i + 1) list)
    removed_next = grind (arith, common_steps, removed_from)

-- the first `i` numbers of a list were applied; the rest has still to be removed, and has its room
pub record IsApplied (k off : ℕ) (list : List ℤ) (tags : List ℕ) (old cur : State) (before mid : CloseListView) (i : ℕ) : Type 0 where
  pub size : cur.size ≡ old.size
  pub range : cur.range ≡ old.range
  pub at_slots : files_at cur ≡ files_upto k (files_at old) off list tags i
  pub settled : IsSettled cur
  pub closed : mid.files ++ removed_from (files_at old) (off + i) (drop i list) ≡ before.files ++ removed_from (files_at old) off list
  pub room : mid.room + length (removed_from (files_at old) off list) ≡ before.room + length (removed_from (files_at old) (off + i) (drop i list))

pub none_applied : {k off : ℕ} {list : List ℤ} {tags : List ℕ} {old cur : State} {before : CloseListView} → cur.size ≡ old.size
    → cur.range ≡ old.range → files_at cur ≡ files_at old → IsSettled cur → IsApplied k off list tags old cur before before 0
none_applied {k} {off} {list} {tags} {old} {before = before} size range files settled = grind (arith, upto_none k (files_at old) off list tags)

module _ {k off : ℕ} {list : List ℤ} {tags : List ℕ} {old cur : State} {before mid : CloseListView} where
  pub all_applied : IsApplied k off list tags old cur before mid (length list) → SetsList k off list tags old cur before mid
  all_applied done =
      let none = ap (removed_from (files_at old) (off + length list)) (drop-length list) in
      grind (arith, common_steps, ap length none, upto_all k (files_at old) off list tags)

  module _ {i : ℕ} (inside : i < length list) (done : IsApplied k off list tags old cur before mid i) where
    abbrev number : ℤ
    number = slice_index_or list i (pos 0)

    abbrev rest : List Closed
    rest = removed_from (files_at old) (off + (i + 1)) (drop (i + 1) list)

    here : files_at cur (off + i) ≡ files_at old (off + i)
    here = ap (λ (a : ℕ → Option Closed). a (off + i)) done.at_slots ∙ upto_here k (files_at old) off list tags i number inside refl

    split : removed_from (files_at old) (off + i) (drop i list) ≡ removed_by_number number (files_at cur (off + i)) ++ rest
    split = removed_next k (files_at old) off list tags i number inside refl ∙ ap (λ (x : Option Closed). removed_by_number number x ++ rest) (sym here)

    parts : length (removed_from (files_at old) (off + i) (drop i list)) ≡ length (removed_by_number number (files_at cur (off + i))) + length rest
    parts = ap length split ∙ length-append (removed_by_number number (files_at cur (off + i))) rest

    -- the next number still has room
    pub room_next : length (removed_from (files_at old) off list) ≤ before.room → length (removed_by_number number (files_at cur (off + i))) ≤ mid.room
    room_next enough = let both = parts in omega arith

    pub applied_next : {new : State} {later : CloseListView} → SetsNumber k off i (tag_at tags i) number cur new mid later
        → IsApplied k off list tags old new before later (i + 1)
    applied_next next = let both = parts in grind (arith, common_steps, here, upto_next k (files_at old) off list tags i number inside refl)
