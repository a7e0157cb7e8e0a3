-- Laws of a slot: a call finds the file that the last change of the slot left there.
use Rattle.std.specs.Prelude.{◌≡◌, ◌≢◌, ℕ, ◌<◌, ◌⊎◌, List, [], ◌∷◌, Contains, Option, Some, None}
use Rattle.fx_plain.specs.declared.event.Action.TheVariants.{Look, Put, Clear, Take, Allocate, Full}
use Rattle.fx_plain.specs.declared.event.File.{File}
use Rattle.fx_plain.specs.declared.event.Action.{Action}
use Rattle.fx_plain.specs.declared.event.Event.{Event}
use Rattle.fx_plain.specs.State.{IsInRange}
use Rattle.fx_plain.specs.History.{IsLegal, ◌▷◌, ◌▷▷◌}
use Rattle.fx_table.specs.Opening.{Opening, start_of, state_at, size_of}

-- the action changes the slot, and leaves this file there, or none
abbrev pub LeavesAt : ℕ → Option File → Action → Type 0
LeavesAt slot left (Put s f replaced) = (s ≡ slot) × (left ≡ Some f)
LeavesAt slot left (Allocate s f) = (s ≡ slot) × (left ≡ Some f)
LeavesAt slot left (Clear s found) = (s ≡ slot) × (left ≡ None)
LeavesAt slot left (Take s found) = (s ≡ slot) × (left ≡ None)
LeavesAt slot left _ = ⊥

-- the action doesn't change the slot
abbrev pub KeepsSlot : ℕ → Action → Type 0
KeepsSlot slot (Put s f replaced) = s ≢ slot
KeepsSlot slot (Allocate s f) = s ≢ slot
KeepsSlot slot (Clear s found) = s ≢ slot
KeepsSlot slot (Take s found) = s ≢ slot
KeepsSlot slot _ = Unit {0}

abbrev pub AllKeepSlot : ℕ → List Event → Type 0
AllKeepSlot slot [] = Unit {0}
AllKeepSlot slot (e ∷ h) = AllKeepSlot slot h × KeepsSlot slot e.action

-- the history is legal from the table's opening on
abbrev pub IsLegalAt : Opening → List Event → Type 0
IsLegalAt o h = IsLegal (start_of o) h (state_at o h)

-- a look-up after a change of its slot finds what the change left, or what a later change left
abbrev pub LookUpFindsTheChange : Type 0
LookUpFindsTheChange =
    (o : Opening) (before since : List Event) (change look : Event) (slot : ℕ)
    (left found : Option File)
    → IsLegalAt o (before ▷ change ▷▷ since ▷ look)
    → LeavesAt slot left change.action
    → look.action ≡ Look slot found
    → (found ≡ left) ⊎ ((later : Event) × Contains since later × LeavesAt slot found later.action)

-- a look-up after a put at its slot finds the new file, if no action between changes the slot
abbrev pub LookUpFindsThePut : Type 0
LookUpFindsThePut =
    (o : Opening) (before since : List Event) (put look : Event) (slot : ℕ) (new : File)
    (replaced found : Option File)
    → IsLegalAt o (before ▷ put ▷▷ since ▷ look)
    → put.action ≡ Put slot new replaced
    → look.action ≡ Look slot found
    → AllKeepSlot slot since
    → found ≡ Some new

-- a look-up after a removal at its slot finds no file, if no action between changes the slot
abbrev pub LookUpFindsTheRemoval : Type 0
LookUpFindsTheRemoval =
    (o : Opening) (before since : List Event) (removal look : Event) (slot : ℕ)
    (found : Option File)
    → IsLegalAt o (before ▷ removal ▷▷ since ▷ look)
    → LeavesAt slot None removal.action
    → look.action ≡ Look slot found
    → AllKeepSlot slot since
    → found ≡ None

-- if every slot of the range was full after a removal at one of them, a file was installed there
-- between
abbrev pub FullFollowsAnInstallation : Type 0
FullFollowsAnInstallation =
    (o : Opening) (before since : List Event) (removal full : Event) (slot : ℕ)
    → IsLegalAt o (before ▷ removal ▷▷ since ▷ full)
    → slot < size_of o
    → IsInRange (start_of o) slot
    → LeavesAt slot None removal.action
    → full.action ≡ Full
    → (later : Event) × (f : File) × Contains since later × LeavesAt slot (Some f) later.action
