-- The table of one thread that a shared table was opened from, while its files are in the shared
-- table's places.
use Rattle.std.specs.Prelude.{◌≡◌, ℕ, ◌≤◌, List, length, Option, None, slice_index_or}
use Rattle.fx_base.specs.Identity.{Identity}
use Rattle.fx_plain.specs.State.{State, IsSettled}
use Rattle.fx_plain.specs.Contents.{Contents, state_of, IsPrepared}
use Rattle.fx_plain.specs.Table.{identity_of}
use Rattle.fx_plain.specs.declared.table.TheConstants.{MOST_SLOTS}

-- it has no file
pub record IsShell (st : State) : Type 0 where
  pub vacant : (slot : ℕ) → st.at slot ≡ None
  pub settled : IsSettled st

-- it has the size and the range of the other
pub record IsShellOf (st empty : State) : Type 0 where
  pub size : empty.size ≡ st.size
  pub range : empty.range ≡ st.range
  pub shell : IsShell empty

-- each of these files is at its slot
pub record AreBack (shell : State) (file : ℕ → Option Identity) (st : State) : Type 0 where
  pub size : st.size ≡ shell.size
  pub range : st.range ≡ shell.range
  pub files : (slot : ℕ) → identity_of (st.at slot) ≡ file slot
  pub settled : IsSettled st

-- the content of the place of this number
abbrev pub file_in_place : List (Option Identity) → ℕ → Option Identity
file_in_place places place = slice_index_or places place None

-- `n` places: that of each slot's number has the slot's file, and the others are empty
pub record AreFirstHomes (plain : Contents) (n : ℕ) (homes : List (Option Identity)) : Type 0 where
  pub count : length homes ≡ n
  pub files : (place : ℕ) → file_in_place homes place ≡ identity_of ((state_of plain).at place)

-- the files of a table are in `n` places, and the table that is left has room for them
pub record HasMovedOut (plain : Contents) (n : ℕ) (left : Contents)
    (places : List (Option Identity)) : Type 0 where
  pub homes : AreFirstHomes plain n places
  pub shell : IsShellOf (state_of plain) (state_of left)
  pub few : (state_of left).size ≤ MOST_SLOTS
  pub room : IsPrepared left
