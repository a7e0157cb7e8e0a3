-- The phases of a file's number.
use Rattle.std.specs.Prelude.{◌+◌}
use Rattle.fx_counted.specs.Words.{ℕ, Option, Some, None, Identity}

-- the phase of a number
pub data Phase : Type 0 where
  -- no file has had it, and no pass may use it
  unborn : Phase
  -- no file has had it, and the pass of this number may use it
  spare : ℕ → Phase
  -- the pass at the seat is about to install its file
  placed : ℕ → Phase
  -- its file is at the slot
  seated : ℕ → Identity → Phase
  -- its file was removed by the pass at the seat, which found these takes
  leaving : ℕ → ℕ → Identity → Phase
  -- its file was removed and retired, and some pass holds it
  retired : Identity → Phase
  -- its file is closed, and the pass at the seat is about to take it out
  emptied : ℕ → Phase
  -- its file is closed and handed out, or it never had one
  closed : Phase

-- the only seat that may change the number's phase, plus 1; or 0
abbrev pub owner : Phase → ℕ
owner (placed seat) = seat + 1
owner (leaving seat takes file) = seat + 1
owner (emptied seat) = seat + 1
owner _ = 0

-- its file, while it is open
abbrev pub file_in : Phase → Option Identity
file_in (seated slot file) = Some file
file_in (leaving seat takes file) = Some file
file_in (retired file) = Some file
file_in _ = None
