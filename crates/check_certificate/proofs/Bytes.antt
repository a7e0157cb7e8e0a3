-- The bytes that a read answers are those of the file that it finds.
use Rattle.check_certificate.proofs.Words.{common_steps, ◌≡◌, ℕ, zero, suc, ◌-◌, List, [], ◌∷◌, sym, ap, ◌∙◌, arith, Some, None, map, Option}
use Rattle.check_certificate.proofs.Words.{slice_get, Access, Asked, Place, Completed, FileEntry, Identity, Happening, Answered, Called, true, Looks}
use Rattle.check_certificate.proofs.Words.{cases_Bool, take, ◌+◌, ◌++◌, IsAbsent, asked_by, IsAccessMade, IsEventAt, Holding, IsMemberDoneBy}
use Rattle.check_certificate.proofs.Words.{LogBeginning, Evidence, Sees, bytes_at, part_of, size_at, answer_at_table, is_read, bytes_read, part_read}
use Rattle.check_certificate.proofs.Words.{is_count, Operation, drop, last_finding, nat_tests, AreIntended, map_push, slice_get-map, not, option_map}
use Rattle.check_certificate.proofs.Cutting.{asked_so}
use Rattle.check_certificate.proofs.Forcing.{gone_by}
use Rattle.check_certificate.proofs.Orders.{older, said, said_may}
use Rattle.check_certificate.specs.Contents.{is_seen, reads_others}
use Rattle.std.proofs.lemmas.Slice.Eq.{bytes_eq-Decides}
use Rattle.std.specs.Str.{bytes_eq}

seen_so : (evidence : Evidence) (slot : ℕ) → is_seen evidence slot ≡ true → evidence ≡ Sees slot
seen_so evidence slot is = grind (arith, cases_Bool, nat_tests)

other_bytes : (xs ys : List ℕ) → not (bytes_eq xs ys) ≡ true → ys ≡ xs → ⊥
other_bytes xs ys differ same = grind (arith, cases_Bool, bytes_eq-Decides)

-- The bytes of the entries of a catalogue, in a list.

abbrev all_bytes : List FileEntry → List (List ℕ)
all_bytes catalogue = map (λ (file : FileEntry). file.bytes) catalogue

part_at : (found : Option FileEntry) (off len : ℕ) (bytes : List ℕ) → Some bytes ≡ option_map (λ file. file.bytes) found
    → take len (drop off bytes) ≡ part_of found off len
part_at found off len bytes is = grind arith

none_at : (found : Option FileEntry) (off len : ℕ) → None ≡ option_map (λ file. file.bytes) found → [] ≡ part_of found off len
none_at found off len is = grind arith

got_of : (catalogue : List FileEntry) (contents : List (List ℕ)) (k : ℕ) (got : Option (List ℕ)) → contents ≡ all_bytes catalogue → got ≡ slice_get contents k
    → got ≡ option_map (λ file. file.bytes) (slice_get catalogue k)
got_of catalogue contents k got is at = at ∙ (ap (λ (l : List (List ℕ)). slice_get l k) is ∙ slice_get-map (λ (file : FileEntry). file.bytes) catalogue k)

pub part_so : (catalogue : List FileEntry) (contents : List (List ℕ)) (operation : Operation) (k : ℕ) (bytes : List ℕ) → contents ≡ all_bytes catalogue
    → Some bytes ≡ slice_get contents k → part_read operation bytes ≡ bytes_read catalogue operation k
part_so catalogue contents operation k bytes is at = grind (arith, part_at (slice_get catalogue k), got_of catalogue contents k (Some bytes) is at)

pub no_part : (catalogue : List FileEntry) (contents : List (List ℕ)) (operation : Operation) (k : ℕ) → contents ≡ all_bytes catalogue
    → None ≡ slice_get contents k → [] ≡ bytes_read catalogue operation k
no_part catalogue contents operation k is at = grind (arith, none_at (slice_get catalogue k), got_of catalogue contents k None is at)

-- the bytes of one more entry
one_more_entry : (catalogue : List FileEntry) (k size : ℕ) → size_at catalogue k ≡ Some size
    → all_bytes (take (k + 1) catalogue) ≡ all_bytes (take k catalogue) ++ bytes_at catalogue k 0 size ∷ []
one_more_entry [] k size at = absurd (cc)
one_more_entry (file ∷ catalogue) zero size at = grind (arith, common_steps)
one_more_entry (file ∷ catalogue) (suc k) size at = grind (arith, one_more_entry catalogue k size at)

pub pushed : {A : Type 0} (f : A → List ℕ) (catalogue : List FileEntry) (k size : ℕ) (before after : List A) (v : A)
    → map f before ≡ all_bytes (take k catalogue) → after ≡ before ++ v ∷ [] → f v ≡ bytes_at catalogue k 0 size → size_at catalogue k ≡ Some size
    → map f after ≡ all_bytes (take (k + 1) catalogue)
pushed f catalogue k size before after v front is own h11 = grind (arith, map_push, one_more_entry)

module _ (catalogue : List FileEntry) (size : ℕ) where
  -- a read at the table that found a file has that file's bytes
  read_found : (operation : Operation) (place : Place) (c : Completed) (accesses : List Access) (k slot : ℕ) (g : Identity) → is_read operation ≡ true
      → AreIntended catalogue place operation accesses → c ≡ answer_at_table catalogue place operation (last_finding accesses)
      → slice_get accesses k ≡ Some (Looks slot (Some g)) → c.got ≡ bytes_read catalogue operation g.entry
  read_found operation place c accesses k slot g reads made same h11 = grind arith

  -- so has a read of a chain that answered bytes
  member_found : (c : Completed) (r : Asked) (accesses : List Access) (k slot : ℕ) (g : Identity) → IsMemberDoneBy catalogue size c r accesses
      → is_read r.operation ≡ true → is_count c.res ≡ true → slice_get accesses k ≡ Some (Looks slot (Some g))
      → c.got ≡ bytes_read catalogue r.operation g.entry
  member_found c r accesses k slot g h7 reads counts h10 = grind (arith, read_found)

module _ (b : LogBeginning) (h : Holding) (c : Completed) (r : Asked) (file : Identity) where
  -- a file of other bytes isn't at the slot of a read
  other_found : (requests : List Asked) → IsEventAt b h.call (Called c.place.submission requests) → IsEventAt b h.answer (Answered c.place.submission c)
      → slice_get requests (c.place.member - 1) ≡ Some r → IsAccessMade b h.call h.answer h.access (Sees h.slot) → is_read r.operation ≡ true
      → is_count c.res ≡ true → (c.got ≡ bytes_read b.catalogue.now r.operation file.entry → ⊥) → IsAbsent b h file
  other_found requests called answered asked made reads counts differs f early late =
      let x = said f made in
      let first : Some x.begins ≡ Some (Called c.place.submission requests) = sym x.called ∙ called in
      let last : Some x.ends ≡ Some (Answered c.place.submission c) = sym x.answered ∙ answered in
      grind (arith, member_found, gone_by, said_may f x, x.is.1, x.time.2, older f x.time.1)

  pub other_said : (e : Happening) (evidence : Evidence) → IsEventAt b h.call e → IsEventAt b h.answer (Answered c.place.submission c)
      → Some r ≡ asked_by e c → IsAccessMade b h.call h.answer h.access evidence → is_seen evidence h.slot ≡ true
      → reads_others b.catalogue.now r c file ≡ true → IsAbsent b h file
  other_said e evidence called answered asks made seen others = grind (arith, asked_so, other_found, seen_so, other_bytes)
