-- The files at some slots alone.
use Rattle.std.specs.Prelude.{◌==◌, ℕ, Bool, List, Option, Some, None}
use Rattle.check_search.specs.Words.{list_any, Cell, Claim, At, Full}

-- a claim or an access of this slot, or of the allocation range where there is none, is of one of
-- these slots
abbrev pub has_slot : List Cell → Option ℕ → Bool
has_slot cells (Some slot) = list_any (λ cell. cell.slot == slot) cells
has_slot cells None = list_any (λ cell. cell.in_range) cells

abbrev pub slot_claimed : Claim → Option ℕ
slot_claimed (At slot condition leaves) = Some slot
slot_claimed Full = None

abbrev pub keeps : List Cell → Claim → Bool
keeps cells claim = has_slot cells (slot_claimed claim)
