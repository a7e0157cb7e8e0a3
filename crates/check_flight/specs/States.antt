-- The states that a flight can reach: the table, where each call is, the files that were removed,
-- and the looks that wait.
use Rattle.check_flight.specs.Words.{ℕ, Bool, IsTrue, List, [], length, Contains, Option, Some}
use Rattle.check_flight.specs.Words.{FileEntry, Identity, Completed, Asked, Table, Permits}
use Rattle.check_flight.specs.Words.{file_removed_by, table_with, table_of, Access, Looks}
use Rattle.check_flight.specs.Words.{RingState, HasMemory, IsNext, Rest, Rules, rules_of}
use Rattle.check_flight.specs.Words.{settled_at, step, run_at, Happening, Called, Answered}
use Rattle.check_flight.specs.Words.{LookCalled, LookAnswered, Freed, FileClosed, AllSettled}
use Rattle.check_flight.specs.Words.{first_of_call, FlightSetting, HasFlight, IsFlight, IsLookDone}
use Rattle.check_flight.specs.Words.{Moment, WasLogged, log_of, made_by, taken_in, table_left_by}
use Rattle.check_flight.specs.Words.{IsLegalBy, IsWholeIf, WaitingLook}
use Rattle.std.specs.Prelude.{◌≡◌, ◌⊎◌, ◌↔◌, ◌+◌, ◌<◌, ◌≤◌, ◌∷◌, ◌++◌}
use Rattle.std.specs.List.{AllByRecursion}

pub record FlightView : Type 0 where
  pub table : Table
  -- of each call that is a chain, by its number
  pub rests : ℕ → Rest
  -- the files that were taken from their slots and aren't known to be closed
  pub removed : List Identity
  -- looks that have made no access and aren't answered
  pub waiting : List WaitingLook

-- the log has another answer at the place of this one
abbrev pub IsDenied : List Happening → Completed → Type 0
IsDenied log c =
    (seen : Completed) × Contains log (Answered c.place.submission seen)
    × (seen.place ≡ c.place) × (seen ≡ c → ⊥)

abbrev pub IsOneDenied : List Happening → List Completed → Type 0
IsOneDenied log answered = (c : Completed) × Contains answered c × IsDenied log c

-- the log has another answer of a look that finds this
abbrev pub IsLookDenied : List Happening → ℕ → Option Identity → Type 0
IsLookDenied log id found =
    (seen : Option Identity) × Contains log (LookAnswered id seen) × (seen ≡ found → ⊥)

-- no other look waits
abbrev pub AreFewer : List WaitingLook → List WaitingLook → Type 0
AreFewer before after = (look : WaitingLook) → Contains after look → Contains before look

-- the files, and one more if there is one
abbrev pub AreWith : List Identity → Option Identity → List Identity → Type 0
AreWith before file after =
    (other : Identity) → Contains after other ↔ (Contains before other ⊎ (file ≡ Some other))

-- the files without this one
abbrev pub AreWithout : List Identity → Identity → List Identity → Type 0
AreWithout before file after = (other : Identity)
    → (Contains after other → Contains before other)
    × ((other ≡ file → ⊥) → Contains before other → Contains after other)

-- an access of a call leads from one state to the other
pub record StepsByAccess (rules : Rules) (state : FlightView) (id : ℕ) (a : Access)
    (next : FlightView) : Type 0 where
  pub table : next.table ≡ table_with state.table a
  pub own : next.rests id ≡ (step rules (state.rests id) a).1
  pub others : (other : ℕ) → 1 ≤ other → (other ≡ id → ⊥)
      → next.rests other ≡ state.rests other
  pub removed : AreWith state.removed (file_removed_by a) next.removed
  pub waiting : AreFewer state.waiting next.waiting

-- no other call has begun an update and not ended it
abbrev pub IsInTurn : ℕ → FlightView → ℕ → Type 0
IsInTurn calls state id = (other : ℕ) → 1 ≤ other → other ≤ calls → (other ≡ id → ⊥)
    → (state.rests other).made ≡ 0

-- the same, if each update must be one step. An event is of call 0
abbrev pub IsInTurnIf : Bool → ℕ → FlightView → ℕ → Type 0
IsInTurnIf whole calls state id = IsTrue whole → IsInTurn calls state id

-- an access answers what the log denies, or leads to one of the states
abbrev pub IsFollowed : Rules → List Happening → List FlightView → FlightView → ℕ → Access → Type 0
IsFollowed rules log states state id a =
    IsOneDenied log (step rules (state.rests id) a).0
    ⊎ ((next : FlightView) × Contains states next × StepsByAccess rules state id a next)

-- each access that a call may make next, up to this number, is followed; with `whole` if the call
-- is in turn
abbrev pub IsStateFollowed : Bool → List FileEntry → ℕ → List Happening → ℕ → List FlightView
    → FlightView → Type 0
IsStateFollowed whole catalogue size log calls states state =
    (id : ℕ) → 1 ≤ id → id ≤ calls → (a : Access) → IsNext catalogue size (state.rests id) a
    → Permits state.table a → IsInTurnIf whole calls state id
    → IsFollowed (rules_of catalogue size) log states state id a

-- a look that waits finds now what the log denies, or no file since its slot is past the size; with
-- `whole` if the look is in turn
abbrev pub AreWaitsDenied : Bool → List Happening → ℕ → FlightView → Type 0
AreWaitsDenied whole log calls state =
    (look : WaitingLook) (found : Option Identity) → Contains state.waiting look
    → Permits state.table (Looks look.slot found) → IsInTurnIf whole calls state look.id
    → IsLookDenied log look.id found

-- what a call may do next in each state leads to one of them, or is denied
abbrev pub AreFollowed : Bool → List FileEntry → ℕ → List Happening → ℕ → List FlightView → Type 0
AreFollowed whole catalogue size log calls states =
    (state : FlightView) → Contains states state
    → IsStateFollowed whole catalogue size log calls states state
    × AreWaitsDenied whole log calls state

-- a call of a chain leads from one state to the other
pub record LeadsByCall (rules : Rules) (state : FlightView) (id : ℕ) (requests : List Asked)
    (next : FlightView) : Type 0 where
  pub table : next.table ≡ state.table
  pub own : next.rests id ≡ (settled_at rules (first_of_call id) requests).1
  pub others : (other : ℕ) → 1 ≤ other → other < id → next.rests other ≡ state.rests other
  pub removed : next.removed ≡ state.removed

-- the answer of a look does: it waits no more
pub record LeadsByAnswer (state : FlightView) (next : FlightView) : Type 0 where
  pub table : next.table ≡ state.table
  pub rests : next.rests ≡ state.rests
  pub removed : next.removed ≡ state.removed
  pub waiting : AreFewer state.waiting next.waiting

-- the close of a file does
pub record LeadsByClose (state : FlightView) (file : Identity) (next : FlightView) : Type 0 where
  pub table : next.table ≡ state.table
  pub rests : next.rests ≡ state.rests
  pub removed : AreWithout state.removed file next.removed
  pub waiting : next.waiting ≡ state.waiting

-- a look found a file that was closed before
abbrev pub IsFoundClosed : List Happening → Option Identity → Type 0
IsFoundClosed read found =
    (file : Identity) × (found ≡ Some file) × Contains read (FileClosed file)

-- the answer of a look was this file, and its hold hasn't begun to end
abbrev pub IsHeld : List Happening → Identity → Type 0
IsHeld read file =
    (id : ℕ) × Contains read (LookAnswered id (Some file)) × (Contains read (Freed id) → ⊥)

-- a look that waits can't be answered so
abbrev pub IsUnmade : FlightView → ℕ → Option Identity → Type 0
IsUnmade state id found =
    (look : WaitingLook) × Contains state.waiting look × (look.id ≡ id)
    × (IsLookDone state.table.size look.slot [] found → ⊥)

-- the event is impossible in a state, by what was read
abbrev pub IsStopped : Rules → List Happening → List (List Asked) → List Happening → FlightView
    → Happening → Type 0
IsStopped rules log runs read state (Called id requests) =
    IsOneDenied log (settled_at rules (first_of_call id) requests).0
IsStopped rules log runs read state (Answered id c) =
    length (run_at runs id) < length (state.rests id).requests + c.place.member
IsStopped rules log runs read state (LookCalled id slot) = ⊥
IsStopped rules log runs read state (LookAnswered id found) =
    IsFoundClosed read found ⊎ IsUnmade state id found
IsStopped rules log runs read state (Freed id) = ⊥
IsStopped rules log runs read state (FileClosed file) =
    (Contains state.removed file → ⊥) ⊎ IsHeld read file
IsStopped rules log runs read state AllSettled =
    (file : Identity) × Contains state.removed file × (Contains read (FileClosed file) → ⊥)

-- it leads from one state to the other
abbrev pub IsLed : Rules → FlightView → FlightView → Happening → Type 0
IsLed rules state next (Called id requests) =
    LeadsByCall rules state id requests next × AreFewer state.waiting next.waiting
IsLed rules state next (Answered id c) = next ≡ state
IsLed rules state next (LookCalled id slot) = LeadsByCall rules state id [] next
    × AreFewer (state.waiting ++ record { id = id; slot = slot } ∷ []) next.waiting
IsLed rules state next (LookAnswered id found) = LeadsByAnswer state next
IsLed rules state next (Freed id) = next ≡ state
IsLed rules state next (FileClosed file) = LeadsByClose state file next
IsLed rules state next AllSettled = next ≡ state

-- each state is stopped, or led to one of the others; with `whole` if no update has begun there and
-- not ended
abbrev pub ArePassed : Bool → Rules → List Happening → List (List Asked) → List Happening
    → List FlightView → List FlightView → Happening → Type 0
ArePassed whole rules log runs read states nexts event =
    (state : FlightView) → Contains states state → IsInTurnIf whole (length runs) state 0
    → IsStopped rules log runs read state event
    ⊎ ((next : FlightView) × Contains nexts next × IsLed rules state next event)

-- where a chain is after these accesses
abbrev pub rest_after : Rules → Rest → List Access → Rest
rest_after rules rest [] = rest
rest_after rules rest (a ∷ accesses) = rest_after rules (step rules rest a).1 accesses

abbrev pub origin_of : Rules → ℕ → List Asked → Rest
origin_of rules id requests = (settled_at rules (first_of_call id) requests).1

-- a flight leads to a state
pub record GoesOnTo (old : RingState) (runs : List (List Asked)) (flight : List Moment)
    (state : FlightView) : Type 0 where
  pub table : state.table ≡ table_left_by (table_of old) flight
  pub rests : (id : ℕ) → 1 ≤ id → id ≤ length runs → state.rests id
      ≡ rest_after (rules_of old.catalogue old.size)
      (origin_of (rules_of old.catalogue old.size) id (run_at runs id)) (made_by id flight)
  pub unmade : (id : ℕ) → length runs < id → made_by id flight ≡ []
  pub has : (file : Identity) → Contains (taken_in flight) file
      → (WasLogged flight (FileClosed file) → ⊥) → Contains state.removed file
  pub only : (file : Identity) → Contains state.removed file → Contains (taken_in flight) file
  pub waits : (look : WaitingLook) → Contains state.waiting look
      → WasLogged flight (LookCalled look.id look.slot) × (made_by look.id flight ≡ [])

-- the answers of calls are those of the log, where it has them, and no request lacks memory
pub record AreAnswers (log : List Happening) (answers : ℕ → List Completed) : Type 0 where
  pub seen : (id : ℕ) (c : Completed) → Contains log (Answered id c) → Contains (answers id) c
  pub memory : (id : ℕ) → AllByRecursion HasMemory (answers id)

abbrev pub setting_of : RingState → (ℕ → List Completed) → FlightSetting
setting_of old answers = record { old = old; first = first_of_call; answers = answers }

-- what a look found in the flight is its answer in the log, where it has one
abbrev pub AreLooksSeen : ℕ → List Happening → List Moment → Type 0
AreLooksSeen size log flight =
    (id slot : ℕ) (found seen : Option Identity) (more : List Access)
    → WasLogged flight (LookCalled id slot) → slot < size
    → made_by id flight ≡ Looks slot found ∷ more
    → Contains log (LookAnswered id seen) → seen ≡ found

-- each flight of what was read leads to one of the states, if its answers are those of the log;
-- with `whole` each one by whole updates
abbrev pub AreReached : Bool → RingState → List Happening → List (List Asked) → List Happening
    → List FlightView → Type 0
AreReached whole old log runs read states =
    (answers : ℕ → List Completed) → AreAnswers log answers → (flight : List Moment)
    → IsFlight (setting_of old answers) flight → IsWholeIf whole (setting_of old answers) flight
    → AreLooksSeen old.size log flight
    → log_of flight ≡ read
    → (state : FlightView) × Contains states state × GoesOnTo old runs flight state

-- the calls that were read are these chains, numbered from 1. A look is one without requests
pub record AreCalls (runs : List (List Asked)) (read : List Happening) : Type 0 where
  pub chain : (id : ℕ) (requests : List Asked) → Contains read (Called id requests)
      → (1 ≤ id) × (id ≤ length runs) × (requests ≡ run_at runs id)
  pub look : (id slot : ℕ) → Contains read (LookCalled id slot)
      → (1 ≤ id) × (id ≤ length runs) × (run_at runs id ≡ [])
  pub once : (id slot other : ℕ) → Contains read (LookCalled id slot)
      → Contains read (LookCalled id other) → slot ≡ other

-- the log has no flight in which each request finds memory
abbrev pub HasNoFlight : RingState → List Happening → Type 0
HasNoFlight old log = (is : HasFlight first_of_call old log)
    → ((id : ℕ) → AllByRecursion HasMemory (is.answers id)) → ⊥

-- the same of flights by whole updates, with `whole`
abbrev pub HasNoFlightBy : Bool → RingState → List Happening → Type 0
HasNoFlightBy whole old log = (is : IsLegalBy whole old log)
    → ((id : ℕ) → AllByRecursion HasMemory (is.0.answers id)) → ⊥

-- the chains that are called after an event
abbrev pub runs_with : List (List Asked) → Happening → List (List Asked)
runs_with runs (Called id requests) = runs ++ requests ∷ []
runs_with runs (Answered id c) = runs
runs_with runs (LookCalled id slot) = runs ++ [] ∷ []
runs_with runs (LookAnswered id found) = runs
runs_with runs (Freed id) = runs
runs_with runs (FileClosed file) = runs
runs_with runs AllSettled = runs

-- a call has the next number
abbrev pub IsNumbered : ℕ → Happening → Type 0
IsNumbered calls (Called id requests) = id ≡ calls + 1
IsNumbered calls (Answered id c) = Unit {0}
IsNumbered calls (LookCalled id slot) = id ≡ calls + 1
IsNumbered calls (LookAnswered id found) = Unit {0}
IsNumbered calls (Freed id) = Unit {0}
IsNumbered calls (FileClosed file) = Unit {0}
IsNumbered calls AllSettled = Unit {0}
