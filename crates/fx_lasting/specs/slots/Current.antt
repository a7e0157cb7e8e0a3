-- The check whether a slot has the file that a pass holds.
use Rattle.std.specs.Prelude.{◌≡◌, ◌⊎◌, ◌↔◌}
use Rattle.fx_lasting.specs.Words.{ℕ, Bool, true, false, IsTrue, List, [], Contains, Option, Some}
use Rattle.fx_lasting.specs.Words.{◌▷◌, ◌▷▷◌, Event, File, Adds, no_use, Opening, state_at}
use Rattle.fx_lasting.specs.Words.{PassView, Holding, Hold}
use Rattle.fx_table.specs.Finding.{LeavesAt}

-- the pass holds a file by a hold of this node
abbrev pub HoldsNode : PassView → ℕ → Type 0
HoldsNode v node = (f : File) × (hold : Hold) × (v.doing ≡ Holding f hold) × (hold.node ≡ node)

-- nothing was done; and the slot has the file that the pass holds, or it hasn't, after all that the
-- pass has seen then
pub record ChecksCurrent (o : Opening) (v : PassView) (slot : ℕ) (current : Bool) (w : PassView)
    : Type 0 where
  pub adds : Adds o v [] v.doing no_use w
  pub exact : (f : File) (hold : Hold) → v.doing ≡ Holding f hold
      → IsTrue current ↔ ((state_at o w.front).at slot ≡ Some f)

-- an event of these changed the slot, and left this file there, or none
abbrev pub LaterLeft : List Event → ℕ → Option File → Type 0
LaterLeft since slot left =
    (later : Event) × Contains since later × LeavesAt slot left later.action

-- a pass that had seen a change of the slot, or had learned of it, finds its file current: then the
-- change left this file, or a later one did
abbrev pub CurrentFileFollowsTheChange : Type 0
CurrentFileFollowsTheChange = (o : Opening) (v w : PassView) (slot : ℕ) (before since : List Event)
    (change : Event) (left : Option File) (f : File) (hold : Hold)
    → LeavesAt slot left change.action → v.front ≡ before ▷ change ▷▷ since
    → v.doing ≡ Holding f hold → ChecksCurrent o v slot true w
    → (more : List Event) × (w.front ≡ before ▷ change ▷▷ more)
    × ((left ≡ Some f) ⊎ LaterLeft more slot (Some f))

-- a pass that had seen its file at the slot doesn't find it current: then a later event changed the
-- slot
abbrev pub OldFileWasReplaced : Type 0
OldFileWasReplaced = (o : Opening) (v w : PassView) (slot : ℕ) (before since : List Event)
    (f : File) (hold : Hold)
    → (state_at o before).at slot ≡ Some f → v.front ≡ before ▷▷ since
    → v.doing ≡ Holding f hold → ChecksCurrent o v slot false w
    → (more : List Event) × (w.front ≡ before ▷▷ more)
    × ((left : Option File) × LaterLeft more slot left)
