-- Rings: the tables and states that they have.
use Rattle.fx_ring.proofs.Words.{◌≡◌, ℕ, Bool, zero, suc, ◌<◌, List, [], ◌++◌, length, refl, sym, ap, subst, ◌∙◌, Option, Some, None, All, arith, ◌+◌}
use Rattle.fx_ring.proofs.Words.{◌≢◌, option_to_list, IsPermutation, All-append, All-cons, All-nil, All-permutation, CloseListView, IsInOrderOfMark}
use Rattle.fx_ring.proofs.Words.{Closed, State, IsSettled, opening, vacant, state_of, identity_of, File, Contents, IsGivenBack, RingContents, IsRing}
use Rattle.fx_ring.proofs.Words.{RingState, IsAtRest, HasCounted, Mark, Submitted, ◌≤◌, HasClosed, ListsFiles, AreEntries, ring_of, ring_with, Asked}
use Rattle.fx_ring.proofs.Words.{with_table, files_at, same_identity, HasSameFiles, ring_files_in_order, files_of_ring, numbers_for, runs_of, IsLegal}
use Rattle.fx_ring.proofs.Words.{Reported, IsOneHistory, opens_alike, map, slice_index_or, FileEntry, read_default, number_if, table_with_files}
use Rattle.fx_ring.proofs.Words.{range_with_len, get_or_past, length-map-range_with_len, get_or-map-range_with_len, file_at, slot_at, files_of_state}
use Rattle.fx_ring.proofs.Words.{files_in_order_of_state}
use Rattle.fx_plain.proofs.Emptying.{listed}
use Rattle.fx_ring.specs.declared.ring.Ring.TheInside.{Inside}

-- what a ring keeps, by its fields
abbrev pub contents_of : Inside → RingContents
contents_of ring = ring_with ring.catalogue ring.table ring.submissions ring.registrations

-- the file is of a catalogue with this number of entries
abbrev pub IsEntry : ℕ → Closed → Type 0
IsEntry entries file = file.entry < entries

-- a table without files keeps what every ring keeps
pub none_rings : (ring : RingState) → ring.at ≡ (λ _. None) → IsRing ring
none_rings ring no_files = grind arith

-- a mark that was counted still is
pub counted_still : (ring next : RingState) (mark : Mark) → ring.registrations ≤ next.registrations → ring.submissions ≤ next.submissions
    → HasCounted ring mark → HasCounted next mark
counted_still ring next mark lists submissions counted = grind arith

-- no counted mark is one of the next submission
pub not_yet : (ring : RingState) (mark : Mark) (c m j : ℕ) → HasCounted ring mark → mark ≢ Submitted (ring.submissions + 1) c m j
not_yet ring mark c m j counted same = grind arith

-- the file that a slot has, by its recorded identity
pub file_told : (x : Option File) (told : Closed) → identity_of x ≡ Some told → (f : File) × (x ≡ Some f) × (f.identity ≡ told)
file_told x told is = grind arith

-- the files of a table, its files' numbers aside
pub files_of-state : (at : ℕ → Option File) (n : ℕ) → ring_files_in_order (λ slot. identity_of (at slot)) n ≡ files_in_order_of_state at n
files_of-state at zero = refl
files_of-state at (suc n) = ap (λ (x : List Closed × List Closed). x.0 ++ x.1) (λ i. (files_of-state at n i, listed (at n) i))

pub entry_listed : {entries : ℕ} (x : Option Closed) → ((file : Closed) → x ≡ Some file → IsEntry entries file)
    → All (IsEntry entries) (option_to_list x)
entry_listed x has = grind (arith, All-cons, All-nil)

entries_in_order : {entries : ℕ} (at : ℕ → Option Closed) (n : ℕ)
    → ((slot : ℕ) (file : Closed) → at slot ≡ Some file → IsEntry entries file) → All (IsEntry entries) (ring_files_in_order at n)
entries_in_order at zero has = λ k d inside. absurd (omega arith)
entries_in_order {entries} at (suc n) has = All-append (IsEntry entries) (ring_files_in_order at n) (option_to_list (at n))
    (entries_in_order at n has) (entry_listed (at n) (has n))

pub entries_of : (ring : RingState) → IsRing ring → AreEntries ring (files_of_ring ring)
entries_of ring is = entries_in_order ring.at ring.size is.entries

-- what was closed is of the catalogue, where all of it was
pub entries_closed : (ring : RingState) {files : List Closed} {closes : CloseListView}
    → AreEntries ring files → HasClosed files closes → AreEntries ring closes.files
entries_closed ring {files} {closes} all closed = All-permutation (IsEntry (length ring.catalogue)) files closes.files closed.same_files all

-- a list of these files, once it is in order
pub lists_files : (ring : RingState) {files given : List Closed} {closes : CloseListView} → AreEntries ring files
    → given ≡ files → IsPermutation given closes.files → IsInOrderOfMark closes.files → ListsFiles ring files closes
lists_files ring {files} {closes} all is same order =
    let closed : HasClosed files closes = record { same_files = subst (λ (l : List Closed). IsPermutation l closes.files) is same; in_order = order } in
    record { closed = closed; entries = entries_closed ring all closed }

-- a list of all files of a ring, once it is in order
pub all_closed : {ring seen : RingContents} {given : List Closed} (closes : CloseListView) → ring ≡ seen → IsRing (ring_of ring)
    → given ≡ files_of_state (state_of ring.table) → IsPermutation given closes.files → IsInOrderOfMark closes.files
    → ListsFiles (ring_of seen) (files_of_ring (ring_of seen)) closes
all_closed {ring} closes same is all permutation order =
    subst (λ (c : RingContents). ListsFiles (ring_of c) (files_of_ring (ring_of c)) closes) same
    (lists_files (ring_of ring) (entries_of (ring_of ring) is)
    (all ∙ sym (files_of-state (state_of ring.table).at (state_of ring.table).size)) permutation order)

-- a table that was emptied is settled
pub emptied_settled : {st : State} {n : ℕ} {fresh : ℕ → Bool} → st ≡ record (vacant n) { fresh = fresh } → IsSettled st
emptied_settled is = subst IsSettled (sym is) (record { unheld = λ _. refl; closed = λ _. refl })

pub opening_files : (st : State) {new : State} (numbers : ℕ) → new ≡ opening st numbers → files_at new ≡ files_at st
opening_files st numbers is = ap files_at is ∙ (λ i slot. same_identity (st.at slot) slot i)

-- what a table of empty slots is
none_in_order : (n : ℕ) → files_in_order_of_state (λ _. None) n ≡ []
none_in_order zero = refl
none_in_order (suc n) = ap (λ (l : List Closed). l ++ []) (none_in_order n)

pub vacant_empty : {st : State} {n : ℕ} → st ≡ vacant n → files_of_state st ≡ []
vacant_empty {n} is = ap files_of_state is ∙ none_in_order n

-- a ring whose table has the files of a state, their numbers aside
pub ring_as : (c : RingContents) {st : State} (t : Contents) → HasSameFiles st (state_of t)
    → ring_of (record c { table = t }) ≡ with_table (ring_of c) st
ring_as c t same = λ i. record (ring_of c) { size = same.size i; range = same.range i; at = λ slot. same.files slot i }

-- a ring whose table came back where it could not be opened
pub given_back_rings : {c : RingContents} {back : Contents} → IsGivenBack c.table back → ring_of (record c { table = back }) ≡ ring_of c
given_back_rings {c} {back} given = ring_as c back given.files

pub given_back_at_rest : {c : RingContents} {back : Contents} → IsAtRest c → IsGivenBack c.table back → IsAtRest (record c { table = back })
given_back_at_rest {c} {back} rest given = assumption (given.settled, subst IsRing (sym (given_back_rings given)) rest.ring, rest)

-- Rings that show the same may do the same: which numbers their files have makes no difference.

pub same_history : (old same new : RingContents) (requests : List Asked) (report : Reported) → ring_of same ≡ ring_of old
    → IsOneHistory old requests report new → IsOneHistory same requests report new
same_history old same new requests report is one = record {
  history = one.history;
  end = one.end;
  legal = subst (λ (st : State). IsLegal st one.history one.end) (opens_alike (state_of old.table) (state_of same.table)
      (λ i. (sym is i).size) (λ i. (sym is i).range) (λ slot i. (sym is i).at slot) (numbers_for (length (runs_of requests)))) one.legal;
  settled = one.settled;
  chains = one.chains;
  explained = grind arith;
  closed = one.closed;
  submission = subst (λ (r : RingState). report.submission ≡ r.submissions + 1) (sym is) one.submission;
  after = subst (λ (r : RingState). ring_of new ≡ record (with_table r one.end) { submissions = r.submissions + 1 }) (sym is) one.after;
}

-- A table that is made with the files of a state.

read_there : {X : Type 0} (at : ℕ → X) (n i : ℕ) (d : X) → i < n → slice_index_or (map at (range_with_len 0 n)) i d ≡ at i
read_there at n i d lt = get_or-map-range_with_len at 0 n i i d lt (omega arith)

pub size_there : (st : State) → (state_of (table_with_files st)).size ≡ st.size
size_there st = length-map-range_with_len (λ k. number_if k (st.at k)) 0 st.size

module _ (st : State) (inside : (slot : ℕ) → st.size ≤ slot → st.at slot ≡ None) where
  abbrev table : Contents
  table = table_with_files st

  placed_so : {slot : ℕ} (x : Option File) → st.at slot ≡ x → slot < st.size → identity_of (file_at table.nodes (number_if slot x)) ≡ identity_of x
  placed_so x is lt = grind (arith, read_there)

  pub told_at : (slot : ℕ) → identity_of (file_at table.nodes (slot_at table.slots slot)) ≡ identity_of (st.at slot)
  told_at slot = grind (arith, read_there, placed_so, get_or_past, size_there)

  pub opened_so : (numbers : ℕ) → opening (state_of table) numbers ≡ opening st numbers
  opened_so = opens_alike (state_of table) st (size_there st) refl told_at

  pub ring_so : (catalogue : List FileEntry) (submissions registrations : ℕ)
      → ring_of (ring_with catalogue table submissions registrations)
      ≡ record (with_table (ring_of (ring_with catalogue table submissions registrations)) st) { submissions = submissions }
  ring_so catalogue submissions registrations = grind (arith, size_there, told_at)

-- it is settled
pub table_settled : (st : State) → IsSettled (state_of (table_with_files st))
table_settled st = grind (arith, read_default, read_there, get_or_past, length-map-range_with_len)
