-- Where each node is in its life.
use Rattle.std.specs.Prelude.{◌+◌, ◌==◌, if◌then◌else◌, None}
use Rattle.fx_lasting.specs.Words.{ℕ, Option, Some, File, Placement, Round, Written, Nothing}
use Rattle.fx_lasting.specs.nodes.Labels.{label_of}

-- where a node is
pub data Phase : Type 0 where
  -- it has no file
  free : Phase
  -- the pass at the seat is about to install its file, and has come so far
  placed : ℕ → Placement → Phase
  -- its file is at the slot
  seated : ℕ → File → Phase
  -- its file was removed by the pass at the seat, which found `takes` takes, has come so far on its
  -- round through the other passes, and made `charges` charges
  leaving : (seat takes : ℕ) → Round → (charges : ℕ) → File → Phase
  -- its file was removed and retired, and somebody has still to let it go
  retired : File → Phase
  -- its file is closed, and the pass at the seat is about to take it out
  emptied : ℕ → Phase
  -- it has no file, and the pass at the seat keeps it for its next one: its word is that of a
  -- birth, less `lost` takes
  kept : (seat lost : ℕ) → Phase

-- the seat that alone may go on with it, plus 1, or 0
abbrev pub owner : Phase → ℕ
owner (placed seat placement) = seat + 1
owner (leaving seat takes round charges f) = seat + 1
owner (emptied seat) = seat + 1
owner (kept seat lost) = seat + 1
owner _ = 0

-- its file, while it is open
abbrev pub file_in : Phase → Option File
file_in (seated slot f) = Some f
file_in (leaving seat takes round charges f) = Some f
file_in (retired f) = Some f
file_in _ = None

-- the label that its two words have: that of its file
abbrev pub written_in : Phase → Written
written_in (placed seat placement) = placement.written
written_in (seated slot f) = label_of f.identity
written_in (leaving seat takes round charges f) = label_of f.identity
written_in (retired f) = label_of f.identity
written_in _ = Nothing

-- the file, if it has the number
abbrev pub file_if_numbered : ℕ → File → Option File
file_if_numbered number f = if f.number == number then Some f else None

-- its file, if it was removed and has the number
abbrev pub removed_in : ℕ → Phase → Option File
removed_in number (leaving seat takes round charges f) = file_if_numbered number f
removed_in number (retired f) = file_if_numbered number f
removed_in number _ = None
