-- Laws of flights.
use Rattle.std.specs.Prelude.{◌≡◌, ◌≢◌, ◌⊎◌, ◌≤◌, ◌<◌, ◌∷◌}
use Rattle.fx_direct.specs.Words.{ℕ, true, List, [], length, Option, Some, None, AllByRecursion}
use Rattle.fx_direct.specs.Words.{◌▷◌, ◌▷▷◌, Action, Look, Put, Take, File, LifeKey}
use Rattle.fx_direct.specs.Phases.{AllFree}
use Rattle.fx_direct.specs.Transitions.{Reserves, Asks, IsEnabled}
use Rattle.fx_direct.specs.Flight.{World, DirectCall, OpenAt, UseOf, CloseOf, DirectMoment}
use Rattle.fx_direct.specs.Flight.{Accesses, CanDo, IsDirectFlight, files_under, has_chain}
use Rattle.fx_direct.specs.Flight.{key_of_call}

-- no slot has begun a life that isn't over, the machine's slots are in the table, those are empty,
-- and no call is in flight
pub record IsEmptyStart (w : World) : Type 0 where
  pub free : AllFree w.slots
  pub inside : length w.slots ≤ w.table.size
  pub empty : (slot : ℕ) → slot < length w.slots → w.table.at slot ≡ None
  pub idle : w.calls ≡ []

-- the file, and nothing else, was installed under the key
abbrev pub IsFileOf : List DirectMoment → LifeKey → Option File → Type 0
IsFileOf h k found = (f : File) × (found ≡ Some f) × (files_under k h ≡ f ∷ [])

-- nothing was found, and nothing was installed under the key, which is that of a chain
abbrev pub IsMissed : List DirectMoment → LifeKey → Option File → Type 0
IsMissed h k found = (found ≡ None) × (files_under k h ≡ []) × (has_chain k h ≡ true)

-- what the access finds, after these moments
abbrev pub FindsItsOwn : List DirectMoment → DirectCall → Action → Type 0
FindsItsOwn h (OpenAt k) (Put slot f replaced) = (replaced ≡ None) × (files_under k h ≡ [])
FindsItsOwn h (UseOf k) (Look slot found) = IsFileOf h k found ⊎ IsMissed h k found
FindsItsOwn h (CloseOf k) (Take slot found) = IsFileOf h k found ⊎ IsMissed h k found
FindsItsOwn h call action = Unit {0}

-- an open finds its slot empty, and is the only one under its key; a request, and a close, find the
-- file that the open of their key installed, or, in a chain whose open installed nothing, no file
abbrev pub EachAccessFindsItsOwn : Type 0
EachAccessFindsItsOwn =
    (start end : World) (earlier later : List DirectMoment) (call : DirectCall) (a : Action)
    → IsEmptyStart start
    → IsDirectFlight start (earlier ▷ Accesses call a ▷▷ later) end
    → FindsItsOwn earlier call a

-- no call in flight is at the slot
abbrev pub NothingIsAt : ℕ → World → Type 0
NothingIsAt slot w = AllByRecursion (λ p. (key_of_call p.call).slot ≢ slot) w.calls

-- after every flight, where the machine may hand a slot out, the kernel's slot is empty and no call
-- is in flight at it; where it may ask for a close, no call is in flight at the slot
abbrev pub NothingIsLeft : Type 0
NothingIsLeft =
    (start w : World) (h : List DirectMoment) (k : LifeKey)
    → IsEmptyStart start
    → IsDirectFlight start h w
    → (CanDo w (Reserves k) → NothingIsAt k.slot w × (w.table.at k.slot ≡ None))
    × (IsEnabled w.slots (Asks k) → NothingIsAt k.slot w)
