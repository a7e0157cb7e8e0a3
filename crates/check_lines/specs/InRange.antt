-- Files whose numbers are within the ranges of their types.
use Rattle.std.specs.Prelude.{◌≡◌, ◌<◌, ◌^◌}
use Rattle.check_lines.specs.Words.{ℕ, Option, Some, Closed}
use Rattle.check_lines.specs.Lines.{IsMarkInRange}

-- the numbers of a file's mark, and its tag, are within the ranges of their types
pub record IsFileInRange (file : Closed) : Type 0 where
  pub mark : IsMarkInRange file.mark
  pub tag : file.tag < 2 ^ 64

-- so are those of the file at each slot
abbrev pub AreInRange : (ℕ → Option Closed) → Type 0
AreInRange at = (slot : ℕ) (file : Closed) → at slot ≡ Some file → IsFileInRange file
