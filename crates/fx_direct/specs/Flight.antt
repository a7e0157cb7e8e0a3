-- Flights: the transitions of the machine, and between them the accesses that the kernel makes for
-- its calls. The table is the one of the model. A flight has its newest moment first.
use Rattle.std.specs.Prelude.{◌≡◌, ◌≤◌, ◌||◌, ◌∷◌, ◌+◌, ◌<◌, ◌++◌, if◌then◌else◌}
use Rattle.fx_direct.specs.Words.{ℕ, zero, suc, Bool, true, false, List, [], length, Some, None}
use Rattle.fx_direct.specs.Words.{AllByRecursion, Action, Look, Release, Put, Clear, Take, Allocate}
use Rattle.fx_direct.specs.Words.{File, LifeKey, Slot, Transition}
use Rattle.fx_plain.specs.State.{State, IsInRange}
use Rattle.fx_plain.specs.Step.{Allows, after as table_after}
use Rattle.fx_direct.specs.Living.{same_key}
use Rattle.fx_direct.specs.Phases.{slot_numbered}
use Rattle.fx_direct.specs.Transitions.{Reserves, Adopts, Chains, Opens, Starts, Finishes, Asks}
use Rattle.fx_direct.specs.Transitions.{Closes, FailsToClose, IsEnabled, slots_with}

-- a call that was submitted. The kernel knows only the slot of its key, and returns the key as user
-- data
pub data DirectCall : Type 0 where
  OpenAt : LifeKey → DirectCall
  UseOf : LifeKey → DirectCall
  CloseOf : LifeKey → DirectCall

abbrev pub key_of_call : DirectCall → LifeKey
key_of_call (OpenAt k) = k
key_of_call (UseOf k) = k
key_of_call (CloseOf k) = k

-- what a call in flight has done: it waits for its turn, or is at work; it has installed its file,
-- or taken the file from its slot; or it makes no access any more, and has done neither
pub data CallStage : Type 0 where
  Waits : CallStage
  Made : CallStage
  Quit : CallStage

-- a call in flight, and whether it is linked to the calls before it in a chain
pub record Pending : Type 0 where
  pub call : DirectCall
  pub linked : Bool
  pub stage : CallStage

abbrev pub pending : DirectCall → Bool → CallStage → Pending
pending call linked stage = record { call = call; linked = linked; stage = stage }

-- the machine, the kernel's table, and the calls in flight
pub record World : Type 0 where
  pub slots : List Slot
  pub table : State
  pub calls : List Pending

-- what happens: a transition of the machine, with which calls begin or the completion of one is
-- seen; an access that the kernel makes for a call; the end of a call's accesses; the access of an
-- open without a key, which puts a file at a slot that the kernel chooses, and is named here by the
-- key of the slot's next life; or an action of others
pub data DirectMoment : Type 0 where
  Does : Transition → DirectMoment
  Accesses : DirectCall → Action → DirectMoment
  Quits : DirectCall → DirectMoment
  Chooses : LifeKey → File → DirectMoment
  Others : Action → DirectMoment

-- one call in flight is over
pub record Loses (call : DirectCall) (stage : CallStage) (old new : List Pending) : Type 0 where
  pub front : List Pending
  pub rest : List Pending
  pub linked : Bool
  pub was : old ≡ front ++ pending call linked stage ∷ rest
  pub is : new ≡ front ++ rest

-- the calls in flight with the requests of a chain, and with its close
abbrev pub with_uses : LifeKey → ℕ → List Pending → List Pending
with_uses k zero calls = calls
with_uses k (suc n) calls = pending (UseOf k) true Waits ∷ with_uses k n calls

abbrev pub with_close : LifeKey → Bool → List Pending → List Pending
with_close k true calls = pending (CloseOf k) true Waits ∷ calls
with_close k false calls = calls

abbrev pub stage_by : Bool → CallStage
stage_by true = Made
stage_by false = Quit

-- the calls in flight after a transition. A completion is that of a call that makes no access any
-- more. An open is answered by a success if and only if it has installed its file, and a close if
-- and only if it has taken the file from its slot
abbrev pub TurnsCalls : Transition → List Pending → List Pending → Type 0
TurnsCalls (Reserves k) old new = new ≡ pending (OpenAt k) false Waits ∷ old
TurnsCalls (Chains k requests closes) old new =
    new ≡ with_close k closes (with_uses k requests old)
TurnsCalls (Opens k installed) old new = Loses (OpenAt k) (stage_by installed) old new
TurnsCalls (Starts k) old new = new ≡ pending (UseOf k) false Waits ∷ old
TurnsCalls (Finishes k) old new = Loses (UseOf k) Quit old new
TurnsCalls (Asks k) old new = new ≡ pending (CloseOf k) false Waits ∷ old
TurnsCalls (Closes k) old new = Loses (CloseOf k) Made old new
TurnsCalls (FailsToClose k) old new = Loses (CloseOf k) Quit old new
TurnsCalls t old new = new ≡ old

-- an access that a call may make: an open puts a file at the slot, a request looks at the slot and
-- releases what it found as often as it likes, and a close takes the file from the slot
abbrev pub MayMake : DirectCall → Action → Type 0
MayMake (OpenAt k) (Put slot f replaced) = slot ≡ k.slot
MayMake (UseOf k) (Look slot found) = slot ≡ k.slot
MayMake (UseOf k) (Release f) = Unit {0}
MayMake (CloseOf k) (Take slot found) = slot ≡ k.slot
MayMake call action = ⊥

-- the call after an access of its own. A close that found no file has done nothing
abbrev pub stage_after : DirectCall → Action → CallStage
stage_after (UseOf k) action = Waits
stage_after (CloseOf k) (Take slot None) = Quit
stage_after call action = Made

-- the order of a chain: a request makes its accesses after the open of its key, and a close after
-- the open and the requests. The call has to wait for the other one, which is in this stage
abbrev pub waits_for : DirectCall → DirectCall → CallStage → Bool
waits_for (UseOf k) (OpenAt j) Waits = same_key j k
waits_for (CloseOf k) (OpenAt j) Waits = same_key j k
waits_for (CloseOf k) (UseOf j) Waits = same_key j k
waits_for call other stage = false

-- if the call is linked, it has to wait for none of these
abbrev pub HasItsTurn : DirectCall → Bool → List Pending → Type 0
HasItsTurn call true calls = AllByRecursion (λ p. waits_for call p.call p.stage ≡ false) calls
HasItsTurn call false calls = Unit {0}

-- a call in flight makes an access, in its turn
pub record Makes (call : DirectCall) (action : Action) (old new : List Pending) : Type 0 where
  pub front : List Pending
  pub rest : List Pending
  pub linked : Bool
  pub was : old ≡ front ++ pending call linked Waits ∷ rest
  pub is : new ≡ front ++ pending call linked (stage_after call action) ∷ rest
  pub may : MayMake call action
  pub turn : HasItsTurn call linked old

-- a call in flight makes no access any more: its accesses are done, or the kernel skips it
pub record Stops (call : DirectCall) (old new : List Pending) : Type 0 where
  pub front : List Pending
  pub rest : List Pending
  pub linked : Bool
  pub was : old ≡ front ++ pending call linked Waits ∷ rest
  pub is : new ≡ front ++ pending call linked Quit ∷ rest

-- an action of others doesn't write the machine's slots. It may look at them, and close removed
-- files
abbrev pub IsElsewhere : ℕ → Action → Type 0
IsElsewhere size (Put slot f replaced) = size ≤ slot
IsElsewhere size (Clear slot found) = size ≤ slot
IsElsewhere size (Take slot found) = size ≤ slot
IsElsewhere size (Allocate slot f) = size ≤ slot
IsElsewhere size action = Unit {0}

-- a life is reserved outside the ring's allocation range. A slot of the range is adopted where the
-- kernel has put a file
abbrev pub FitsRange : State → Transition → Type 0
FitsRange table (Reserves k) = IsInRange table k.slot → ⊥
FitsRange table (Adopts k) = IsInRange table k.slot × (f : File) × (table.at k.slot ≡ Some f)
FitsRange table t = Unit {0}

-- the condition of the machine's transitions
abbrev pub CanDo : World → Transition → Type 0
CanDo w t = IsEnabled w.slots t × FitsRange w.table t

-- a moment leads from one world to another, under a condition of the machine's transitions
abbrev pub ComesBy : (World → Transition → Type 0) → World → DirectMoment → World → Type 0
ComesBy enabled w (Does t) v =
    enabled w t × TurnsCalls t w.calls v.calls
    × (v ≡ record { slots = slots_with w.slots t; table = w.table; calls = v.calls })
ComesBy enabled w (Accesses call a) v =
    Allows w.table a × Makes call a w.calls v.calls
    × (v ≡ record { slots = w.slots; table = table_after w.table a; calls = v.calls })
ComesBy enabled w (Quits call) v =
    Stops call w.calls v.calls
    × (v ≡ record { slots = w.slots; table = w.table; calls = v.calls })
ComesBy enabled w (Chooses k f) v =
    Allows w.table (Allocate k.slot f)
    × (k.slot < length w.slots) × (k.number ≡ (slot_numbered w.slots k.slot).number + 1)
    × (v ≡ record w { table = table_after w.table (Allocate k.slot f) })
ComesBy enabled w (Others a) v =
    Allows w.table a × IsElsewhere (length w.slots) a
    × (v ≡ record { slots = w.slots; table = table_after w.table a; calls = w.calls })

abbrev pub IsDirectFlightBy : (World → Transition → Type 0) → World → List DirectMoment → World
    → Type 0
IsDirectFlightBy enabled start [] end = end ≡ start
IsDirectFlightBy enabled start (m ∷ h) end =
    (w : World) × IsDirectFlightBy enabled start h w × ComesBy enabled w m end

-- the same under the machine's own condition
abbrev pub Comes : World → DirectMoment → World → Type 0
Comes w m v = ComesBy CanDo w m v

-- the flight leads from one world to another
abbrev pub IsDirectFlight : World → List DirectMoment → World → Type 0
IsDirectFlight start h end = IsDirectFlightBy CanDo start h end

-- the files that the open of a key installed, the oldest first
abbrev pub file_of_key : LifeKey → LifeKey → File → List File
file_of_key j k f = if same_key j k then f ∷ [] else []

abbrev pub files_put_by : LifeKey → DirectCall → Action → List File
files_put_by k (OpenAt j) (Put slot f replaced) = file_of_key j k f
files_put_by k call action = []

abbrev pub files_under : LifeKey → List DirectMoment → List File
files_under k [] = []
files_under k (Does t ∷ h) = files_under k h
files_under k (Accesses call a ∷ h) = files_under k h ++ files_put_by k call a
files_under k (Quits call ∷ h) = files_under k h
files_under k (Chooses j f ∷ h) = files_under k h ++ file_of_key j k f
files_under k (Others a ∷ h) = files_under k h

-- a chain was submitted under the key
abbrev pub is_chain_of : LifeKey → Transition → Bool
is_chain_of k (Chains j requests closes) = same_key j k
is_chain_of k t = false

abbrev pub has_chain : LifeKey → List DirectMoment → Bool
has_chain k [] = false
has_chain k (Does t ∷ h) = is_chain_of k t || has_chain k h
has_chain k (m ∷ h) = has_chain k h
