-- The lines of a report have numbers that their types have.
use Rattle.check_judge.proofs.{◌≡◌, inl, inr, ℕ, suc, ◌+◌, ◌<◌, ◌≤◌, ◌^◌, pos, List, [], ◌∷◌, length, take, drop, All, refl, subst, arith, Option}
use Rattle.check_judge.proofs.{Some, None, slice_get, get_or_from_slice_get, slice_get_within, All-append, All-cons, All-get_or, All-head, All-nil}
use Rattle.check_judge.proofs.{All-tail, FileEntry, Errno, Completed, completed, next_member, canceled, first_member, severs, Asked, Operation, Place}
use Rattle.check_judge.proofs.{accesses_of, accesses_of_chain, Access, ChainAccess, IsRequestDone, IsChainDone, AreChainsDone, either_way, AreFiles}
use Rattle.check_judge.proofs.{length-drop, get_or-drop, get_or-take, get_or_past, length-take, IsCompletionInRange, IsPlaceInRange, cases_lt}
use Rattle.check_judge.proofs.{refusal, bytes_at, part_of, Allocates, both_parts, ◌==◌, not, filter, map, slice_get-get_or, All-map, tag_completion}
use Rattle.check_judge.proofs.{tags_of, Closed, IsFileInRange, runs_of, each_all, RingState, Reported, IsOneOrder, table_of, lines_of, named_close}
use Rattle.check_judge.proofs.{RingSlots, MayBeClosed, ring_with_slots, name_of, IsTrue, AreLinesInRange, IsCloseInRange, is_without, All-filter}
use Rattle.check_judge.proofs.{AllByRecursion, completion_so, name_without_end, IsBytes, IsAllocationInRange, no_bytes, IsCounted, closed_in_range}
use Rattle.check_judge.proofs.{may_close_all, short_runs}
use Rattle.fx_base.specs.declared.catalogue.TheConstants.{LONGEST_ENTRY}
use Rattle.fx_base.specs.declared.tag_completion.TagCompletion.{TagCompletion}
use Rattle.check_judge.proofs.StrandClaims.{possible_of_chain}
use Rattle.check_judge.proofs.Refuting.{possible_all}

-- an element of a list of which each is so
all_got : {A : Type 0} (P : A → Type 0) (xs : List A) (i : ℕ) {x : A} → All P xs → slice_get xs i ≡ Some x → P x
all_got P xs i {x} all is = subst P (get_or_from_slice_get xs i x x is) (All-get_or P xs i x (slice_get_within xs i x is) all)

taken_bytes : (n : ℕ) (xs : List ℕ) → IsBytes xs → IsBytes (take n xs)
taken_bytes n xs fits i = elim (cases_lt i n) [
  | inl low ↦ rw (get_or-take n xs i 0 low) (fits i)
  | inr past ↦ rw (get_or_past (take n xs) i 0 (omega (arith, length-take n xs))) (omega arith)
]

left_bytes : (n : ℕ) (xs : List ℕ) → IsBytes xs → IsBytes (drop n xs)
left_bytes n xs fits i = rw get_or-drop (fits (n + i))

-- bytes that a read returns
record AreGiven (got : List ℕ) : Type 0 where
  small : length got < 2 ^ 31
  bytes : IsBytes got

given : {catalogue : List FileEntry} (entry off len : ℕ) → AreFiles catalogue → AreGiven (bytes_at catalogue entry off len)
given {catalogue} entry off len are = of (slice_get catalogue entry) refl
  where
    of : (x : Option FileEntry) → slice_get catalogue entry ≡ x → AreGiven (part_of x off len)
    of None is = record { small = omega arith; bytes = no_bytes }
    of (Some file) is =
        let small : length file.bytes ≤ LONGEST_ENTRY = all_got (λ (f : FileEntry). length f.bytes ≤ LONGEST_ENTRY) catalogue entry are.catalogue.small is in
        let bytes : IsBytes file.bytes = all_got (λ (f : FileEntry). IsBytes f.bytes) catalogue entry are.bytes is in
        record {
          small = omega (arith, length-take len (drop off file.bytes), length-drop off file.bytes);
          bytes = taken_bytes len (drop off file.bytes) (left_bytes off file.bytes bytes);
        }

error : {place : Place} → IsPlaceInRange place → (errno : Errno) → IsCompletionInRange (refusal place errno)
error is errno = grind (arith, no_bytes)

number_in_range : {n : ℕ} {place : Place} → IsPlaceInRange place → n < 2 ^ 31 → IsCompletionInRange (completed place (pos n) [])
number_in_range {place} is few = record { place = is; res = few; got = no_bytes }

module _ (catalogue : List FileEntry) (are : AreFiles catalogue) (size : ℕ) (small : size ≤ 256) (range : ℕ × ℕ) where
  abbrev AreInside : List Access → Type 0
  AreInside accesses = AllByRecursion (IsAllocationInRange size range) accesses

  module _ (place : Place) (is : IsPlaceInRange place) where
    request_so : (operation : Operation) (accesses : List Access) {c : Completed} → AreInside accesses
        → IsRequestDone catalogue size place operation accesses c → IsCompletionInRange c
    request_so operation accesses {c} inside =
        completion_so catalogue place size IsCompletionInRange accesses c (error is)
        (λ file off len. let g = given file.entry off len are in record { place = is; res = g.small; got = g.bytes })
        (λ n few. number_in_range is (omega arith))
        (λ slot file one. let within : AreInside (Allocates slot file ∷ []) = subst AreInside one inside in
        let low = within.0.0 in number_in_range is (omega arith)) operation

  moved : {place : Place} (n : ℕ) → IsPlaceInRange place → place.member + suc n < 2 ^ 32 → IsPlaceInRange (next_member place)
  moved n is few = record { submission = is.submission; chain = is.chain; member = omega arith }

  canceled_so : (place : Place) (requests : List Asked) → IsPlaceInRange place → place.member + length requests < 2 ^ 32
      → All IsCompletionInRange (canceled place requests)
  canceled_so place [] is few = All-nil IsCompletionInRange
  canceled_so place (r ∷ rs) is few =
      grind (arith, canceled_so (next_member place) rs (moved (length rs) is few) (omega arith), All-cons, next_member, error, moved)

  chain_so : (place : Place) (requests : List Asked) (accesses : List Access) (cs : List Completed) → IsPlaceInRange place
      → place.member + length requests < 2 ^ 32 → AreInside accesses → IsChainDone catalogue size place requests accesses cs
      → All IsCompletionInRange cs
  chain_so place [] accesses cs is few inside x = rw x.1 (All-nil IsCompletionInRange)
  chain_so place (r ∷ rs) accesses cs is few inside x =
      let (front, behind) = both_parts (IsAllocationInRange size range) x.0 x.1 (rw x.4 at inside) in
      let next : IsPlaceInRange (next_member place) = moved (length rs) is few in
      rw x.5 (All-cons IsCompletionInRange x.2 x.3 (request_so place is r.operation x.0 front x.6)
      (either_way {R = All IsCompletionInRange x.3} (severs r x.2) (λ _ y. rw y.1 (canceled_so (next_member place) rs next (omega arith)))
      (λ _ y. chain_so (next_member place) rs x.1 x.3 next (omega arith) behind y) x.7))

  -- the completions of an order
  pub chains_so : {submission : ℕ} (first : ℕ) (runs : List (List Asked)) (order : List ChainAccess) (cs : List Completed) → submission < 2 ^ 32
      → first + length runs < 2 ^ 32 → All (λ run. length run ≤ 16) runs → AreInside (accesses_of order)
      → AreChainsDone catalogue size submission first runs order cs → All IsCompletionInRange cs
  chains_so first [] order cs low few short inside x = rw x (All-nil IsCompletionInRange)
  chains_so {submission} first (run ∷ runs) order cs low few short inside x =
      let one : length run ≤ 16 = All-head (λ (r : List Asked). length r ≤ 16) run runs short in
      rw x.2 (All-append IsCompletionInRange x.0 x.1
      (chain_so (first_member submission first) run (accesses_of_chain first order) x.0
      (record { submission = low; chain = omega arith; member = omega arith }) (omega arith) (possible_of_chain size range first order inside) x.3)
      (chains_so (first + 1) runs order x.1 low (omega arith) (All-tail (λ (r : List Asked). length r ≤ 16) run runs short) inside x.4))

-- The lines of an accepted submission's report have numbers that their types have, and names
-- without a line end.

abbrev no_entry : FileEntry
no_entry = record { name = []; bytes = [] }

-- the name of an entry has no line end
name_fits : {catalogue : List FileEntry} {entry : ℕ} → AreFiles catalogue → entry < length catalogue → IsTrue (is_without 10 (name_of catalogue entry))
name_fits {catalogue} {entry} are inside =
    grind (arith, name_without_end, slice_get-get_or catalogue entry no_entry inside, are.catalogue.named entry no_entry inside)

abbrev IsSmall : ℕ → Type 0
IsSmall tag = tag < 2 ^ 64

tags_fit : (files : List Closed) → All (λ file. IsSmall file.tag) files → All IsSmall (map (λ completion. completion.user_data) (tags_of files))
tags_fit files small =
    All-map IsSmall (λ (completion : TagCompletion). completion.user_data) (tags_of files)
    (All-map (λ (completion : TagCompletion). IsSmall completion.user_data) (λ (file : Closed). tag_completion file.tag)
    (filter (λ file. not (file.tag == 0)) files) (All-filter (λ (file : Closed). not (file.tag == 0)) (λ file. IsSmall file.tag) files small))

module _ {catalogue : List FileEntry} {old : RingSlots} {asked : List Asked} (s : IsCounted catalogue old asked) {report : Reported}
    {left : RingState} (one : IsOneOrder (ring_with_slots catalogue old) asked report left) where
  ranges : All IsFileInRange report.closes.files
  ranges = each_all IsFileInRange report.closes.files (closed_in_range s one)

  inside : All (MayBeClosed catalogue old.slots) report.closes.files
  inside = (may_close_all s one).each

  pub report_in_range : AreLinesInRange (lines_of catalogue report)
  report_in_range =
      let numbered = one.is.submission in
      let slots = s.kept.few_slots in
      record {
        completions = chains_so catalogue s.kept.files (length old.slots.at.items) (omega arith) old.slots.range 1 (runs_of asked) one.order
            report.completions (omega arith) (omega arith) (short_runs asked s.accepted)
            (possible_all (table_of (ring_with_slots catalogue old)) _ _ (accesses_of one.order) refl refl one.is.permitted) one.is.done;
        closed = All-map IsCloseInRange (named_close catalogue) report.closes.files
            (λ k d low. record { mark = (ranges k d low).mark; name = name_fits s.kept.files (inside k d low).inside });
        tags = tags_fit report.closes.files (λ k d low. (ranges k d low).tag);
      }
