-- Flights: the events of a log with the accesses of its calls between them. A flight has its newest
-- moment first, as histories do.
use Rattle.fx_flight.specs.Words.{ℕ, nat_le, List, [], length, take, Contains, Option, Some, None}
use Rattle.fx_flight.specs.Words.{Identity, Completed, Asked, Place, RingState, table_of}
use Rattle.fx_flight.specs.Words.{IsChainDone, Access}
use Rattle.std.specs.Prelude.{◌≡◌, ◌⊎◌, ◌+◌, ◌==◌, if◌then◌else◌, ◌∷◌, ◌++◌}
use Rattle.std.specs.Bool.{MatchBool}
use Rattle.std.specs.Option.{option_to_list}
use Rattle.fx_order.specs.Access.{Table, Permits, table_with, file_removed_by}
use Rattle.fx_order.specs.declared.access.Access.TheVariants.{Looks}
use Rattle.fx_order.specs.declared.access.ChainAccess.{ChainAccess}
use Rattle.fx_flight.specs.Events.{Happening, Called, Answered, LookCalled, LookAnswered, Freed}
use Rattle.fx_flight.specs.Events.{FileClosed, AllSettled, first_of_call}

-- what happens in a flight: an event of the log, or an access of a call, by the call's number
pub data Moment : Type 0 where
  Logged : Happening → Moment
  Accesses : ChainAccess → Moment

-- the event is in the flight
abbrev pub WasLogged : List Moment → Happening → Type 0
WasLogged flight event = Contains flight (Logged event)

-- the events of a flight, the oldest first
abbrev pub log_of : List Moment → List Happening
log_of [] = []
log_of (Logged event ∷ flight) = log_of flight ++ event ∷ []
log_of (Accesses x ∷ flight) = log_of flight

-- the table after a flight's accesses
abbrev pub table_left_by : Table → List Moment → Table
table_left_by table [] = table
table_left_by table (Logged event ∷ flight) = table_left_by table flight
table_left_by table (Accesses x ∷ flight) = table_with (table_left_by table flight) x.access

-- the accesses of a call, the oldest first
abbrev pub made_by : ℕ → List Moment → List Access
made_by id [] = []
made_by id (Logged event ∷ flight) = made_by id flight
made_by id (Accesses x ∷ flight) =
    if x.chain == id then made_by id flight ++ x.access ∷ [] else made_by id flight

-- the files that the accesses took from their slots
abbrev pub taken_in : List Moment → List Identity
taken_in [] = []
taken_in (Logged event ∷ flight) = taken_in flight
taken_in (Accesses x ∷ flight) = option_to_list (file_removed_by x.access) ++ taken_in flight

-- by what a flight is judged
pub record FlightSetting : Type 0 where
  -- the ring before it. Its size stays
  pub old : RingState
  -- the place of the first member of each call
  pub first : ℕ → Place
  -- what the members of each call answer in the end, whether the log has it or not
  pub answers : ℕ → List Completed

-- the accesses are a beginning of those with which the chain's members get the call's answers
abbrev pub IsBegun : FlightSetting → ℕ → List Asked → List Access → Type 0
IsBegun s id requests made =
    (more : List Access)
    × IsChainDone s.old.catalogue s.old.size (s.first id) requests (made ++ more) (s.answers id)

-- this is the answer of one of the chain's members, and that member and those before it have made
-- their accesses
pub record IsMemberDone (s : FlightSetting) (id : ℕ) (requests : List Asked) (made : List Access)
    (c : Completed) : Type 0 where
  -- the answers of the members before it, and of those after it
  pub earlier : List Completed
  pub later : List Completed
  pub answer : s.answers id ≡ earlier ++ c ∷ later
  -- the accesses up to it, and those after it
  pub own : List Access
  pub others : List Access
  pub accesses : made ≡ own ++ others
  pub done : IsChainDone s.old.catalogue s.old.size (s.first id)
      (take (length earlier + 1) requests) own (earlier ++ c ∷ [])

-- a look of a slot made these accesses, and found this; past the size it makes none, and finds no
-- file
abbrev pub IsLookDone : ℕ → ℕ → List Access → Option Identity → Type 0
IsLookDone size slot accesses found =
    MatchBool (nat_le size slot) ((accesses ≡ []) × (found ≡ None))
    (accesses ≡ Looks slot found ∷ [])

-- after this flight, the access is one that the call may make next: a chain goes on, or a look has
-- made none
abbrev pub MayAccess : FlightSetting → List Moment → ℕ → Access → Type 0
MayAccess s flight id a =
    ((requests : List Asked) × WasLogged flight (Called id requests)
    × IsBegun s id requests (made_by id flight ++ a ∷ []))
    ⊎ ((slot : ℕ) × (found : Option Identity) × WasLogged flight (LookCalled id slot)
    × (made_by id flight ≡ []) × (a ≡ Looks slot found))

-- a file may be closed by now
pub record CloseFits (flight : List Moment) (file : Identity) : Type 0 where
  -- an access took it from its slot
  pub removed : Contains (taken_in flight) file
  -- it isn't closed yet
  pub once : WasLogged flight (FileClosed file) → ⊥
  -- each look whose answer was this file has begun to end its hold
  pub unheld : (id : ℕ) → WasLogged flight (LookAnswered id (Some file))
      → WasLogged flight (Freed id)

-- after this flight, the log may have this event
abbrev pub MayFollow : FlightSetting → List Moment → Happening → Type 0
MayFollow s flight (Called id requests) = IsBegun s id requests []
MayFollow s flight (Answered id c) =
    (requests : List Asked) × WasLogged flight (Called id requests)
    × IsMemberDone s id requests (made_by id flight) c
MayFollow s flight (LookCalled id slot) = Unit {0}
MayFollow s flight (LookAnswered id found) =
    (slot : ℕ) × WasLogged flight (LookCalled id slot)
    × IsLookDone s.old.size slot (made_by id flight) found
    × ((file : Identity) → found ≡ Some file → WasLogged flight (FileClosed file) → ⊥)
MayFollow s flight (Freed id) = Unit {0}
MayFollow s flight (FileClosed file) = CloseFits flight file
MayFollow s flight AllSettled =
    (file : Identity) → Contains (taken_in flight) file → WasLogged flight (FileClosed file)

-- after this flight, the moment may come: an access is permitted by the table that those before it
-- left
abbrev pub MayCome : FlightSetting → List Moment → Moment → Type 0
MayCome s flight (Logged event) = MayFollow s flight event
MayCome s flight (Accesses x) =
    Permits (table_left_by (table_of s.old) flight) x.access × MayAccess s flight x.chain x.access

-- each moment may come after those before it
abbrev pub IsFlight : FlightSetting → List Moment → Type 0
IsFlight s [] = Unit {0}
IsFlight s (moment ∷ flight) = IsFlight s flight × MayCome s flight moment

-- a flight of the log, from this ring on; the first member of each call has the given place
pub record HasFlight (first : ℕ → Place) (old : RingState) (log : List Happening) : Type 0 where
  pub answers : ℕ → List Completed
  pub flight : List Moment
  pub is : IsFlight (record { old = old; first = first; answers = answers }) flight
  pub same : log_of flight ≡ log

-- there is a flight of the log
abbrev pub IsLegalLog : RingState → List Happening → Type 0
IsLegalLog old log = HasFlight first_of_call old log
