-- A ring as contracts see it (io_uring_setup(2); the counts and the marks are this project's own).
use Rattle.std.specs.Prelude.{◌≡◌, ℕ, zero, suc, ◌<◌, ◌≤◌, List, [], ◌++◌, length, All, Option}
use Rattle.std.specs.Prelude.{Some, None, IsPermutation}
use Rattle.std.specs.Option.{option_to_list}
use Rattle.fx_base.specs.Catalogue.{FileEntry}
use Rattle.fx_base.specs.CloseList.{IsInOrderOfMark}
use Rattle.fx_base.specs.CloseListView.{CloseListView}
use Rattle.fx_base.specs.declared.mark.Mark.{Mark}
use Rattle.fx_base.specs.declared.mark.Mark.TheVariants.{Registered, Submitted}
use Rattle.fx_base.specs.Identity.{Identity}
use Rattle.fx_base.specs.declared.open_file.Closed.{Closed}
use Rattle.fx_plain.specs.State.{State, IsSettled}
use Rattle.fx_plain.specs.Contents.{Contents, state_of}
use Rattle.fx_plain.specs.Table.{identity_of}
use Rattle.fx_ring.specs.declared.ring.TheConstants.{MOST_SUBMISSIONS, MOST_REGISTRATIONS}

-- what a ring keeps
pub record RingContents : Type 0 where
  pub catalogue : List FileEntry
  pub table : Contents
  pub submissions : ℕ
  pub registrations : ℕ

-- what callers know of a ring
pub record RingState : Type 0 where
  -- the files that can be opened
  pub catalogue : List FileEntry
  -- how many slots there are, where the allocation range begins and how long it is, and the file at
  -- each slot; without a table the size is 0
  pub size : ℕ
  pub range : ℕ × ℕ
  pub at : ℕ → Option Identity
  -- how many submissions were accepted, and how many registrations and updates
  pub submissions : ℕ
  pub registrations : ℕ

-- the ring with the slots, the range and the files of a table, the numbers of the files aside
abbrev pub with_table : RingState → State → RingState
with_table ring st =
    record ring { size = st.size; range = st.range; at = λ slot. identity_of (st.at slot) }

abbrev pub ring_of : RingContents → RingState
ring_of c = record {
  catalogue = c.catalogue;
  size = (state_of c.table).size;
  range = (state_of c.table).range;
  at = λ slot. identity_of ((state_of c.table).at slot);
  submissions = c.submissions;
  registrations = c.registrations;
}

-- a ring without a table, with nothing counted
abbrev pub new_ring : List FileEntry → RingState
new_ring catalogue = record {
  catalogue = catalogue;
  size = 0;
  range = (0, 0);
  at = λ _. None;
  submissions = 0;
  registrations = 0;
}

-- the ring without its table
abbrev pub without_table : RingState → RingState
without_table ring = record ring { size = 0; range = (0, 0); at = λ _. None }

-- the files at the slots below this number, in order of slot
abbrev pub ring_files_in_order : (ℕ → Option Identity) → ℕ → List Identity
ring_files_in_order at zero = []
ring_files_in_order at (suc n) = ring_files_in_order at n ++ option_to_list (at n)

abbrev pub files_of_ring : RingState → List Identity
files_of_ring ring = ring_files_in_order ring.at ring.size

-- the ring has counted the registration or the submission that the mark is of
abbrev pub HasCounted : RingState → Mark → Type 0
HasCounted ring (Registered k i) = k ≤ ring.registrations
HasCounted ring (Submitted submission chain member entry) = submission ≤ ring.submissions

-- the files are of the catalogue
abbrev pub AreEntries : RingState → List Identity → Type 0
AreEntries ring files = All (λ file. file.entry < length ring.catalogue) files

-- what every ring keeps: its files are of the catalogue, and no two of them have one mark
pub record IsRing (ring : RingState) : Type 0 where
  pub entries : (slot : ℕ) (file : Identity) → ring.at slot ≡ Some file
      → file.entry < length ring.catalogue
  pub counted : (slot : ℕ) (file : Identity) → ring.at slot ≡ Some file → HasCounted ring file.mark
  pub distinct : (slot other : ℕ) (file same : Identity) → ring.at slot ≡ Some file
      → ring.at other ≡ Some same → file.mark ≡ same.mark → slot ≡ other

-- a ring between two of its calls
pub record IsAtRest (c : RingContents) : Type 0 where
  pub settled : IsSettled (state_of c.table)
  pub ring : IsRing (ring_of c)
  pub few_submissions : c.submissions ≤ MOST_SUBMISSIONS
  pub few_registrations : c.registrations ≤ MOST_REGISTRATIONS

-- the list has exactly these files, in order of mark
pub record HasClosed (files : List Closed) (closes : CloseListView) : Type 0 where
  pub same_files : IsPermutation files closes.files
  pub in_order : IsInOrderOfMark closes.files

-- what a ring with this catalogue and table keeps, with so much counted
abbrev pub ring_with : List FileEntry → Contents → ℕ → ℕ → RingContents
ring_with catalogue table submissions registrations = record {
  catalogue = catalogue;
  table = table;
  submissions = submissions;
  registrations = registrations;
}
