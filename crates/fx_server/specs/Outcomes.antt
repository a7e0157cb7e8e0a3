-- The meaning of the numbers and tags that C gets.
use Rattle.std.specs.Prelude.{◌≡◌}
use Rattle.fx_server.specs.Words.{ℕ, ℤ, pos, Option, Some, None, Identity, KeyFault, CoreOutcome}
use Rattle.fx_server.specs.Words.{DROPPED, EMPTY, NO_SLOT, AGAIN, STALE}
use Rattle.fx_lasting.specs.declared.key_answers.KeyFault.TheVariants as fault

-- the tag of a file if it came out, or 0
abbrev pub tag_of : Option Identity → ℕ
tag_of None = 0
tag_of (Some file) = file.tag

-- the number of a call that consumed a file if it came out, or this other number
abbrev pub dropped_or : ℤ → Option Identity → ℤ
dropped_or other None = other
dropped_or other (Some file) = DROPPED

-- of a call by key that left the slot as it was
abbrev pub fault_code : KeyFault → ℤ
fault_code fault.NoSlot = NO_SLOT
fault_code fault.Empty = EMPTY
fault_code fault.Stale = STALE
fault_code fault.Again = AGAIN

-- the call is done: its number is not negative
abbrev pub IsDone : ℤ → Type 0
IsDone answer = (n : ℕ) × (answer ≡ pos n)

-- the tags of the files that a call was the last to use: one that its look-up saw first, and one
-- that it held
pub record LastUses (out : CoreOutcome) (freed released : Option Identity) : Type 0 where
  pub its_freed : out.freed ≡ tag_of freed
  pub its_released : out.released ≡ tag_of released
