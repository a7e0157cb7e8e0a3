-- Refusals between submissions, and the files that a list closes or keeps.
use Rattle.check_lines.proofs.Words.{length-append, append_assoc, is_bad_entry, Instruction, MakesSparse, RegistersList, SetsRange, SubmitsAll}
use Rattle.check_lines.proofs.Words.{Unregisters, UpdatesRing, call_of, RingSlots, by_equality, Bool, List, None, Option, Some, [], false}
use Rattle.check_lines.proofs.Words.{if◌then◌else◌, length, refl, sym, true, ℕ, ℤ, ◌≤◌, ◌+◌, ◌==◌, ◌∙◌, ◌∷◌, ◌≡◌, nat_le, nat_lt, ◌||◌, zero, suc}
use Rattle.check_lines.proofs.Words.{◌<◌, ◌^◌, pos, All, subst, arith, IfNone, unwrap_or, ◌++◌, slice_index_or, drop, or_parts, or_from}
use Rattle.check_lines.proofs.Words.{AllByRecursion, list_any, Errno, EAGAIN, EBADF, EBUSY, EINVAL, EMFILE, ENOMEM, ENXIO, MOST_SLOTS, is_bad_file}
use Rattle.check_lines.proofs.Words.{removed_from, removed_by_number, file_after, RingState, HasClosed, IsRing, ring_files_in_order, files_of_ring}
use Rattle.check_lines.proofs.Words.{RingContents, ring_of, are_bad_tags, tags_given, tag_at, MOST_REGISTRATIONS, option_to_list, All-permutation}
use Rattle.check_lines.proofs.Words.{FileEntry, CloseListView, Closed, ring_with_slots, table_of_slots, good_files, files_upto, upto_here, upto_next}
use Rattle.check_lines.proofs.Words.{removed_next, few_removed, removed_entries, IsEntry, entries_of, All-append, All-cons, All-nil, PrintsClosed}
use Rattle.check_lines.proofs.Words.{PrintsEnd, closes_text, teardown_text, Registered, AreInRange, Table, with_file}
use Rattle.fx_chain.proofs.Counted.{passed}
use Rattle.fx_base.specs.declared.catalogue.TheConstants.{MOST_ENTRIES}
use Rattle.check_lines.proofs.Marks.{one_close_list}
use Rattle.fx_order.proofs.OneRing.{none_past, ring_with_files, shows_ring}

abbrev pub reasons_of : RingState → Instruction → List (Bool × Errno)
reasons_of ring (MakesSparse n) = (nat_lt 0 ring.size, EBUSY) ∷ (n == 0, EINVAL) ∷ (nat_lt MOST_SLOTS n, EMFILE) ∷ []
reasons_of ring (RegistersList list tags) =
    (nat_lt 0 ring.size, EBUSY) ∷ (length list == 0 || are_bad_tags list (tags_given list tags), EINVAL)
    ∷ (nat_lt MOST_SLOTS (length list), EMFILE) ∷ (list_any (is_bad_file (length ring.catalogue)) list, EBADF)
    ∷ (nat_le MOST_REGISTRATIONS ring.registrations, EAGAIN) ∷ []
reasons_of ring Unregisters = (ring.size == 0, ENXIO) ∷ []
reasons_of ring (SetsRange off len) = (nat_lt ring.size (off + len), EINVAL) ∷ []
reasons_of ring (UpdatesRing off list tags) =
    (ring.size == 0, ENXIO)
    ∷ (length list == 0 || (nat_lt ring.size (off + length list) || are_bad_tags list (tags_given list tags)), EINVAL)
    ∷ (list_any (is_bad_entry (length ring.catalogue)) list, EBADF) ∷ (nat_le MOST_REGISTRATIONS ring.registrations, EAGAIN) ∷ []
reasons_of ring (SubmitsAll asked) = []

abbrev first_of : List (Bool × Errno) → Option Errno
first_of [] = None
first_of (reason ∷ reasons) = if reason.0 then Some reason.1 else first_of reasons

refusal_is : (ring : RingState) (command : Instruction) → (call_of ring command).refusal ≡ first_of (reasons_of ring command)
refusal_is ring command = grind arith

-- where it isn't refused, none holds
all_fail : (reasons : List (Bool × Errno)) → first_of reasons ≡ None → AllByRecursion (λ (reason : Bool × Errno). reason.0 ≡ false) reasons
all_fail [] is = tt
all_fail (reason ∷ reasons) is = let (fails, rest) = passed reason.0 reason.1 (first_of reasons) is in (fails, all_fail reasons rest)

pub none_holds : (ring : RingState) (command : Instruction) → (call_of ring command).refusal ≡ None
    → AllByRecursion (λ (reason : Bool × Errno). reason.0 ≡ false) (reasons_of ring command)
none_holds ring command none = all_fail (reasons_of ring command) (sym (refusal_is ring command) ∙ none)

-- an accepted update ends within the table
pub inside_of : (ring : RingState) (off : ℕ) (list : List ℤ) (tags : Option (List ℕ)) → (call_of ring (UpdatesRing off list tags)).refusal ≡ None
    → off + length list ≤ ring.size
inside_of ring off list tags none = grind (arith, none_holds, or_parts)

abbrev is_memory : Bool × Errno → Bool
is_memory (holds, ENOMEM) = true
is_memory (holds, _) = false

first_other : (reasons : List (Bool × Errno)) → list_any is_memory reasons ≡ false → first_of reasons ≡ Some ENOMEM → ⊥
first_other [] none is = cc
first_other ((true, ENOMEM) ∷ reasons) none is = cc
first_other ((true, _) ∷ reasons) none is = cc
first_other ((false, errno) ∷ reasons) none is = first_other reasons (or_parts (is_memory (false, errno)) _ none).1 is

pub refusal_other : (ring : RingState) (command : Instruction) → (call_of ring command).refusal ≡ Some ENOMEM → ⊥
refusal_other ring command is = grind (arith, first_other, refusal_is)

-- The files that are kept of a ring, and those that a list removes, are few and of the catalogue.

abbrev pub AreOf : List FileEntry → List Closed → Type 0
AreOf catalogue files = All (λ file. file.entry < length catalogue) files

one_listed : (x : Option Closed) → length (option_to_list x) ≤ 1
one_listed x = grind arith

few_in_order : (at : ℕ → Option Closed) (n : ℕ) → length (ring_files_in_order at n) ≤ n
few_in_order at zero = omega arith
few_in_order at (suc n) = omega (arith, length-append (ring_files_in_order at n) (option_to_list (at n)), one_listed (at n), few_in_order at n)

pub all_of_ring : (catalogue : List FileEntry) (ring : RingSlots) (files : List Closed)
    → files ≡ ring_files_in_order (table_of_slots ring.slots).at (length ring.slots.at.items) → IsRing (ring_with_slots catalogue ring) → AreOf catalogue files
all_of_ring catalogue ring files is kept = subst (AreOf catalogue) (sym is) (entries_of (ring_with_slots catalogue ring) kept)

pub few_of_ring : (ring : RingSlots) (files : List Closed)
    → files ≡ ring_files_in_order (table_of_slots ring.slots).at (length ring.slots.at.items) → length ring.slots.at.items ≤ MOST_SLOTS → length files < 2 ^ 32
few_of_ring ring files is few = grind (arith, few_in_order)

-- so are those that a call closes
pub closed_files : (catalogue : List FileEntry) (ring : RingSlots) (command : Instruction) (files : List Closed)
    → files ≡ unwrap_or (call_of (ring_with_slots catalogue ring) command).closed [] → IsRing (ring_with_slots catalogue ring)
    → length ring.slots.at.items ≤ MOST_SLOTS → (call_of (ring_with_slots catalogue ring) command).refusal ≡ None
    → AreOf catalogue files × (length files < 2 ^ 32)
closed_files catalogue ring command files is kept few none =
    grind (arith, all_of_ring, few_of_ring, removed_from, few_removed, inside_of, removed_entries)

pub all_closed : (catalogue : List FileEntry) (files : List Closed) (closes : CloseListView) → AreOf catalogue files → HasClosed files closes
    → AreOf catalogue closes.files
all_closed catalogue files closes all closed = All-permutation (IsEntry (length catalogue)) files closes.files closed.same_files all

larger_entry : (m n : ℕ) (z : ℤ) → m ≤ n → is_bad_entry m z ≡ false → is_bad_entry n z ≡ false
larger_entry m n z few good = grind arith

-- the entries of a smaller catalogue are those of a larger one, too
pub good_larger : (m n : ℕ) (list : List ℤ) → m ≤ n → list_any (is_bad_entry m) list ≡ false → list_any (is_bad_entry n) list ≡ false
good_larger m n [] few good = refl
good_larger m n (z ∷ list) few good =
    or_from _ _ (larger_entry m n z few (or_parts _ _ good).0) (good_larger m n list few (or_parts _ _ good).1)

-- so the list of a call that isn't refused has only entries that a catalogue may have
pub good_updated : (refusal : Option Errno) (entries : ℕ) (list : List ℤ) → IfNone refusal (entries ≤ MOST_ENTRIES)
    → IfNone refusal (list_any (is_bad_entry entries) list ≡ false) → IfNone refusal (list_any (is_bad_entry MOST_ENTRIES) list ≡ false)
good_updated None entries list few good = good_larger entries MOST_ENTRIES list few good
good_updated (Some errno) entries list few good = tt

pub good_listed : (refusal : Option Errno) (entries : ℕ) (list : List ℤ) → IfNone refusal (entries ≤ MOST_ENTRIES)
    → IfNone refusal (list_any (is_bad_file entries) list ≡ false) → IfNone refusal (list_any (is_bad_entry MOST_ENTRIES) list ≡ false)
good_listed None entries list few good = good_larger entries MOST_ENTRIES list few (good_files entries list good)
good_listed (Some errno) entries list few good = tt

-- The files that a call closes are at slots of the ring, so they have different marks.

abbrev pub IsAtOne : (ℕ → Option Closed) → Closed → Type 0
IsAtOne at file = (slot : ℕ) × (at slot ≡ Some file)

listed : (at : ℕ → Option Closed) (slot : ℕ) (x : Option Closed) → at slot ≡ x → All (IsAtOne at) (option_to_list x)
listed at slot x is = grind (arith, All-cons, All-nil)

pub all_in_order : (at : ℕ → Option Closed) (n : ℕ) → All (IsAtOne at) (ring_files_in_order at n)
all_in_order at zero = λ k d inside. absurd (omega arith)
all_in_order at (suc n) = All-append (IsAtOne at) (ring_files_in_order at n) (option_to_list (at n)) (all_in_order at n) (listed at n (at n) refl)

taken : (at : ℕ → Option Closed) (slot : ℕ) (number : ℤ) → All (IsAtOne at) (removed_by_number number (at slot))
taken at slot number = grind (arith, listed)

pub all_removed : (at : ℕ → Option Closed) (slot : ℕ) (list : List ℤ) → All (IsAtOne at) (removed_from at slot list)
all_removed at slot [] = λ k d inside. absurd (omega arith)
all_removed at slot (number ∷ list) =
    All-append (IsAtOne at) (removed_by_number number (at slot)) (removed_from at (slot + 1) list) (taken at slot number) (all_removed at (slot + 1) list)

-- files at different slots have different marks
pub one_at : (ring : RingState) → IsRing ring → (x y : Closed) → IsAtOne ring.at x → IsAtOne ring.at y → x.mark ≡ y.mark → x ≡ y
one_at ring is x y here there marks = grind arith

-- the printed text of them is the same
pub closes_printed : (ring : RingState) (files : List Closed) (closes : CloseListView) (line printed : List ℕ) → IsRing ring → All (IsAtOne ring.at) files
    → HasClosed files closes → PrintsClosed ring files line printed → printed ≡ line ++ closes_text ring.catalogue closes.files
closes_printed ring files closes line printed is_ring all closed (other, has, is) =
    grind (arith, one_at, one_close_list (IsAtOne ring.at) (one_at ring is_ring) files other closes all has closed)

-- and so is what is printed of those that are left at the end
pub end_printed : (before : RingState) (files : List Closed) (closes : CloseListView) (text : List ℕ) → IsRing before → files ≡ files_of_ring before
    → HasClosed files closes → PrintsEnd before text → text ≡ teardown_text before.catalogue closes.files
end_printed before files closes text is_ring all closed (other, has, is) =
    rw (
      is,
      one_close_list (IsAtOne before.at) (one_at before is_ring) (files_of_ring before) other closes
          (all_in_order before.at before.size) has (rw all at closed),
    )

-- A list that is applied to slots, one number further.

-- a number of a list leaves files in range
pub in_range_after : (t : Table) (slot k i tag : ℕ) (z : ℤ) → AreInRange t.at → k < 2 ^ 32 → i < 2 ^ 32 → tag < 2 ^ 64
    → AreInRange (with_file t slot (file_after (Registered k i) tag z (t.at slot))).at
in_range_after t slot k i tag z fits low short small s file = grind (arith, by_equality)

module _ (k off i : ℕ) (list : List ℤ) (tags : List ℕ) (z : ℤ) (first cur new : Table) (inside : i < length list)
    (is : z ≡ slice_index_or list i (pos 0)) (before : cur ≡ record first { at = files_upto k first.at off list tags i }) where
  pub one_more : new ≡ with_file cur (off + i) (file_after (Registered k i) (tag_at tags i) z (cur.at (off + i)))
      → new ≡ record first { at = files_upto k first.at off list tags (i + 1) }
  one_more after = rw (after, before, upto_here k first.at off list tags i z inside is, upto_next k first.at off list tags i z inside is)

  pub more_removed : (gone so_far : List Closed) → gone ≡ removed_by_number z (cur.at (off + i))
      → so_far ++ removed_from first.at (off + i) (drop i list) ≡ removed_from first.at off list
      → (so_far ++ gone) ++ removed_from first.at (off + (i + 1)) (drop (i + 1) list) ≡ removed_from first.at off list
  more_removed gone so_far is_gone was =
      rw (is_gone, before, upto_here k first.at off list tags i z inside is, append_assoc, ← removed_next k first.at off list tags i z inside is) was

-- The slots and counts of a ring are what some ring shows.

pub shown : (catalogue : List FileEntry) (ring : RingSlots) → (next : RingContents) × (ring_of next ≡ ring_with_slots catalogue ring)
shown catalogue ring = (
  ring_with_files (ring_with_slots catalogue ring),
  shows_ring (ring_with_slots catalogue ring) (none_past catalogue ring),
)
