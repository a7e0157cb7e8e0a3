-- The parts of a text that an iterator has left.
use Rattle.std.specs.Prelude.{ℕ, ◌==◌, List, [], Option}
use Rattle.std.specs.Borrow.{Bor}
use Rattle.std.specs.Iterator.{YieldsFirstRef}
use Rattle.std.specs.List.{slice_split}
use Rattle.std.specs.Option.{option_map_or}
use Rattle.fx_language.specs.declared.parts.Parts.{Parts}

-- the parts that the iterator has left
abbrev pub parts_left : Parts → List (List ℕ)
parts_left it = option_map_or (λ rest. slice_split (λ b. b == it.at) rest.now) it.rest []

-- a call returned the first part that was left, or `None` if none was left, and then none is left
abbrev pub YieldsFirstPart : Parts → Option (Bor (List ℕ)) → Parts → Type 0
YieldsFirstPart = YieldsFirstRef parts_left
