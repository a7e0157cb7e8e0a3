-- Laws of every history of a file table, whoever makes the steps and in whichever order (this
-- project's own).
use Rattle.std.specs.Prelude.{◌≡◌, ℕ, ◌<◌, ◌≤◌, ◌==◌, ◌⊎◌, false, if◌then◌else◌, List, [], ◌∷◌}
use Rattle.std.specs.Prelude.{◌++◌, length, Option, Some, None}
use Rattle.fx_plain.specs.State.{State, IsSettled, opening}
use Rattle.fx_plain.specs.History.{◌▷◌, ◌▷▷◌, IsLegal, part_of_pass}
use Rattle.fx_plain.specs.declared.event.File.{File}
use Rattle.fx_plain.specs.declared.event.Event.{Event}
use Rattle.fx_plain.specs.declared.event.Action.{Action}
use Rattle.fx_plain.specs.declared.event.Action.TheVariants.{Look, Release, Put, Allocate, Close}

-- the file is at one of the slots
abbrev pub IsAtSlot : State → File → Type 0
IsAtSlot st f = (slot : ℕ) × (slot < st.size) × (st.at slot ≡ Some f)

-- no file has a hold or waits for its close, and each file at a slot has a number that no other
-- slot's file has and no new file will get
pub record IsStart (st : State) : Type 0 where
  pub settled : IsSettled st
  pub distinct : (slot other : ℕ) (f g : File) → slot < st.size → other < st.size
      → st.at slot ≡ Some f → st.at other ≡ Some g → f.number ≡ g.number
      → slot ≡ other
  pub used : (slot : ℕ) (f : File) → slot < st.size → st.at slot ≡ Some f
      → st.fresh f.number ≡ false

-- the file, if it has the number
abbrev pub if_numbered : ℕ → File → List File
if_numbered number f = if f.number == number then f ∷ [] else []

-- the file of the number that an action closes
abbrev pub closed_of : ℕ → Action → List File
closed_of number (Close f) = if_numbered number f
closed_of number _ = []

-- the files closed under a number, in order
abbrev pub closes_of : ℕ → List Event → List File
closes_of number [] = []
closes_of number (e ∷ h) = closes_of number h ++ closed_of number e.action

abbrev pub released_by : Action → List File
released_by (Release f) = f ∷ []
released_by _ = []

-- the files that were released, in order
abbrev pub releases_in : List Event → List File
releases_in [] = []
releases_in (e ∷ h) = releases_in h ++ released_by e.action

abbrev pub installed_by : Action → Option File
installed_by (Put slot f replaced) = Some f
installed_by (Allocate slot f) = Some f
installed_by _ = None

-- the file was installed
abbrev pub IsInstalled : List Event → File → Type 0
IsInstalled [] f = ⊥
IsInstalled (e ∷ h) f = IsInstalled h f ⊎ (installed_by e.action ≡ Some f)

-- the file was closed
abbrev pub IsClosed : List Event → File → Type 0
IsClosed [] f = ⊥
IsClosed (e ∷ h) f = IsClosed h f ⊎ (e.action ≡ Close f)

-- the file is at a slot at the end, and was never closed
abbrev pub IsStillThere : List Event → State → File → Type 0
IsStillThere h end f = IsAtSlot end f × (closes_of f.number h ≡ [])

-- the file is at no slot at the end, and exactly one file of its number was closed: this file
abbrev pub IsClosedOnce : List Event → State → File → Type 0
IsClosedOnce h end f = (IsAtSlot end f → ⊥) × (closes_of f.number h ≡ f ∷ [])

-- after a pass's look-up that found a file, and as long as the pass releases nothing, no file of
-- that number is closed, in whichever state the history began
abbrev pub NoCloseWhileHeld : Type 0
NoCloseWhileHeld =
    (start end : State) (before since others : List Event) (look : Event) (slot : ℕ) (f : File)
    → IsLegal start (before ▷ look ▷▷ since ▷▷ others) end
    → look.action ≡ Look slot (Some f)
    → releases_in (part_of_pass look.pass since) ≡ []
    → closes_of f.number since ≡ []

-- no number is closed twice
abbrev pub ClosedAtMostOnce : Type 0
ClosedAtMostOnce =
    (start end : State) (h : List Event) (number : ℕ)
    → IsStart start
    → IsLegal start h end
    → length (closes_of number h) ≤ 1

-- at a settled end, each file that was ever at a slot is still at one, or was closed exactly once
abbrev pub EveryRemovedFileIsClosed : Type 0
EveryRemovedFileIsClosed =
    (start end : State) (h : List Event) (f : File)
    → IsStart start
    → IsLegal start h end
    → IsSettled end
    → IsAtSlot start f ⊎ IsInstalled h f
    → IsStillThere h end f ⊎ IsClosedOnce h end f

-- if no file was removed but not closed at the start, each file that was closed, or is at a slot at
-- the end, was at a slot at the start or was installed
abbrev pub EveryFileWasThereOrInstalled : Type 0
EveryFileWasThereOrInstalled =
    (start end : State) (h : List Event) (f : File)
    → ((number : ℕ) → start.removed number ≡ None)
    → IsLegal start h end
    → IsAtSlot end f ⊎ IsClosed h f
    → IsAtSlot start f ⊎ IsInstalled h f

-- the state in which passes begin is one from which the laws apply
abbrev pub OpeningIsStart : Type 0
OpeningIsStart = (st : State) (numbers : ℕ) → IsStart (opening st numbers)
