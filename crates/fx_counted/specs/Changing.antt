-- A pass that changes a slot, and reports the change if the slot is in the allocation range.
use Rattle.std.specs.Prelude.{◌≡◌, ℕ, ℤ, pos, negsuc, Bool, true, false}
use Rattle.fx_counted.specs.Words.{IsFront, Change, Outside, Same, More, Less, Log, Start}
use Rattle.fx_counted.specs.Control.{in_change}
use Rattle.fx_counted.specs.Laws.{HasPass, IsInRange, IsOutOfRange}
use Rattle.fx_counted.specs.Passes.{Sat, opening_of, pass_of}
use Rattle.fx_counted.specs.Effects.{IsInside}

-- a seat with one pass of the table, whose front is legal, and whose work agrees with the table
pub record IsAtWork (k : Start) (m : Sat) : Type 0 where
  pub log : Log
  pub pass : HasPass k m log
  pub front : IsFront (opening_of k) (pass_of m.0)
  pub inside : IsInside k m.0.work

-- the slot is in the allocation range, or it is not
abbrev pub InRange : Start → ℕ → Bool → Type 0
InRange k slot true = IsInRange k slot
InRange k slot false = IsOutOfRange k slot

-- the change after a beginning, or without one: nothing to report yet
abbrev pub begun : Bool → Change
begun true = Same
begun false = Outside

-- the difference in the number of full slots that the pass hasn't reported yet
abbrev pub difference : Change → ℤ
difference Outside = pos 0
difference Same = pos 0
difference More = pos 1
difference Less = negsuc 0

-- a pass that began a change is in it with this difference; otherwise it is in none
abbrev pub HasToReport : Bool → ℤ → Change → Type 0
HasToReport true delta c = (in_change c ≡ 1) × (difference c ≡ delta)
HasToReport false delta c = c ≡ Outside
