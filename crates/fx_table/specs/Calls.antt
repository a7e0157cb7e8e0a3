-- The events and uses that each call of a shared table adds to its pass.
use Rattle.std.specs.Prelude.{◌≡◌, ℕ, ◌+◌, ◌<◌, ◌≤◌, Bool, true, false, List, [], map, Option}
use Rattle.std.specs.Prelude.{Some, None}
use Rattle.std.specs.Prelude.{Result, Ok, Err}
use Rattle.fx_base.specs.Identity.{Identity}
use Rattle.fx_plain.specs.declared.event.File.{File}
use Rattle.fx_plain.specs.declared.event.Action.{Action}
use Rattle.fx_plain.specs.declared.event.Action.TheVariants.{Look, Release, Put, Clear, Take}
use Rattle.fx_plain.specs.declared.event.Action.TheVariants.{Allocate, Full, Close}
use Rattle.fx_plain.specs.History.{IsSeenBy, ◌▷◌, ◌▷▷◌}
use Rattle.fx_plain.specs.State.{State}
use Rattle.fx_plain.specs.Table.{numbered}
use Rattle.fx_table.specs.Opening.{Opening, size_of, state_at}
use Rattle.fx_table.specs.Pass.{PassView, IsFront, event_of, next_number, IsFileHold}
use Rattle.fx_table.specs.Pass.{IsFileRemoval}
use Rattle.fx_table.specs.declared.values.Doing.{Doing}
use Rattle.fx_table.specs.declared.values.Doing.TheVariants.{Idle, Holding, Retiring}
use Rattle.fx_table.specs.declared.values.Hold.{Hold}
use Rattle.fx_table.specs.declared.values.Retired.{Retired}
use Rattle.fx_table.specs.declared.values.Empty.{Empty}
use Rattle.fx_table.specs.declared.values.LookFault.{LookFault}
use Rattle.fx_table.specs.declared.values.LookFault.TheVariants.{Spent, Empty as EmptySlot}

-- the numbers and look-ups that calls use
pub record Use : Type 0 where
  pub numbers : ℕ
  pub looks : ℕ

abbrev pub no_use : Use
no_use = record { numbers = 0; looks = 0 }

abbrev pub one_look : Use
one_look = record { numbers = 0; looks = 1 }

abbrev pub one_number : Use
one_number = record { numbers = 1; looks = 0 }

abbrev pub both_uses : Use → Use → Use
both_uses a b = record { numbers = a.numbers + b.numbers; looks = a.looks + b.looks }

-- what a pass has left after it used some: in a table that lasts, as much as before
abbrev pub Spends : Bool → ℕ → ℕ → ℕ → Type 0
Spends false before used after = after + used ≡ before
Spends true before used after = after ≡ before

-- the pass's front grew by events of others and by these actions of its own, and afterwards it does
-- `doing`
pub record Adds (o : Opening) (v : PassView) (actions : List Action) (doing : Doing) (used : Use)
    (w : PassView) : Type 0 where
  pub seen : IsSeenBy v.front w.front
  pub front : IsFront o w
  pub own : w.own ≡ v.own ▷▷ map (event_of v) actions
  pub now : w.doing ≡ doing
  pub number : w.number ≡ v.number
  pub chain : w.chain ≡ v.chain
  pub drawn : w.drawn ≡ v.drawn
  pub no_chains_left : w.no_chains_left ≡ v.no_chains_left
  pub numbers_left : Spends o.lasts v.numbers_left used.numbers w.numbers_left
  pub looks_left : Spends o.lasts v.looks_left used.looks w.looks_left

-- the identity that a call returns for a file that is to be closed
abbrev pub IsHandedOut : File → Identity → Type 0
IsHandedOut f file = file ≡ f.identity

-- a draw makes no action: the pass gets a later chain with all its numbers, or `None`
abbrev pub Draws : Opening → PassView → Option ℕ → PassView → Type 0
Draws o v None w = w ≡ record v { no_chains_left = true }
Draws o v (Some c) w = (v.no_chains_left ≡ false) × (v.chain < c) × (c ≤ o.chains)
    × (w ≡ record v { chain = c; drawn = v.drawn ▷ c; numbers_left = o.numbers })

-- a look-up, before which the same call took these actions
abbrev pub LookedAfter : Opening → PassView → List Action → ℕ → Result Hold LookFault → PassView
    → Type 0
LookedAfter o v earlier slot (Ok hold) w =
    (f : File) × IsFileHold o f hold
    × Adds o v (earlier ▷ Look slot (Some f)) (Holding f hold) one_look w
LookedAfter o v earlier slot (Err Spent) w = (v.looks_left ≡ 0) × (w ≡ v)
LookedAfter o v earlier slot (Err EmptySlot) w =
    Adds o v (earlier ▷ Look slot None) Idle one_look w

abbrev pub Looked : Opening → PassView → ℕ → Result Hold LookFault → PassView → Type 0
Looked o v slot result w = LookedAfter o v [] slot result w

-- a look-up that may have closed a removed file before
abbrev pub LookedUp : Opening → PassView → ℕ → Result Hold LookFault → Option Identity → PassView
    → Type 0
LookedUp o v slot found None w = Looked o v slot found w
LookedUp o v slot found (Some file) w =
    (f : File) × IsHandedOut f file × LookedAfter o v ([] ▷ Close f) slot found w

-- the release of `f`, the file that the pass held
abbrev pub ReleasesFile : Opening → PassView → File → Option Identity → PassView → Type 0
ReleasesFile o v f None w = Adds o v ([] ▷ Release f) Idle no_use w
ReleasesFile o v f (Some file) w =
    IsHandedOut f file × Adds o v ([] ▷ Release f ▷ Close f) Idle no_use w

abbrev pub Released : Opening → PassView → Hold → Option Identity → PassView → Type 0
Released o v hold result w =
    (f : File) × (v.doing ≡ Holding f hold) × ReleasesFile o v f result w

-- a new file, under the pass's next number
abbrev pub new_file : Opening → PassView → Identity → File
new_file o v file = numbered (next_number o v) file

-- the file of an installation has the identity that was given, and is `new_file` unless the table
-- lasts
pub record IsNewFile (o : Opening) (v : PassView) (file : Identity) (new : File) : Type 0 where
  pub identity : new.identity ≡ file
  pub same : o.lasts ≡ false → new ≡ new_file o v file

-- the new file was installed at a slot
abbrev pub PlacedFile : Opening → PassView → ℕ → File → Option Retired → PassView → Type 0
PlacedFile o v slot new None w = Adds o v ([] ▷ Put slot new None) Idle one_number w
PlacedFile o v slot new (Some x) w =
    (f : File) × IsFileRemoval o f x
    × Adds o v ([] ▷ Put slot new (Some f)) (Retiring f x) one_number w

abbrev pub Placed : Opening → PassView → ℕ → Identity → Option Retired → PassView → Type 0
Placed o v slot file result w =
    (new : File) × IsNewFile o v file new × PlacedFile o v slot new result w

abbrev pub Allocated : Opening → PassView → Identity → Result ℕ Identity → PassView → Type 0
Allocated o v file (Ok slot) w =
    (slot < size_of o) × ((new : File) × IsNewFile o v file new
    × Adds o v ([] ▷ Allocate slot new) Idle one_number w)
Allocated o v file (Err back) w = (back ≡ file) × Adds o v ([] ▷ Full) Idle no_use w

abbrev pub Cleared : Opening → PassView → ℕ → Option Retired → PassView → Type 0
Cleared o v slot None w = Adds o v ([] ▷ Clear slot None) Idle no_use w
Cleared o v slot (Some x) w =
    (f : File) × IsFileRemoval o f x × Adds o v ([] ▷ Clear slot (Some f)) (Retiring f x) no_use w

abbrev pub Taken : Opening → PassView → ℕ → Result Retired Empty → PassView → Type 0
Taken o v slot (Err _) w = Adds o v ([] ▷ Take slot None) Idle no_use w
Taken o v slot (Ok x) w =
    (f : File) × IsFileRemoval o f x × Adds o v ([] ▷ Take slot (Some f)) (Retiring f x) no_use w

-- a retired file isn't closed yet: some pass holds it, or in a table that lasts, a look-up that
-- first saw it may still be under way
abbrev pub StaysOpen : Bool → State → File → Type 0
StaysOpen false st f = 0 < st.holds f.number
StaysOpen true st f = st.removed f.number ≡ Some f

-- the retirement of `f`, the file that the pass removed: it is closed, or stays open at the end of
-- the front
abbrev pub RetiresFile : Opening → PassView → File → Option Identity → PassView → Type 0
RetiresFile o v f None w = StaysOpen o.lasts (state_at o w.front) f × Adds o v [] Idle no_use w
RetiresFile o v f (Some file) w = IsHandedOut f file × Adds o v ([] ▷ Close f) Idle no_use w

abbrev pub HasRetired : Opening → PassView → Retired → Option Identity → PassView → Type 0
HasRetired o v retired result w =
    (f : File) × (v.doing ≡ Retiring f retired) × RetiresFile o v f result w
