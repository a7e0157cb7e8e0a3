-- The states of the judge, as contracts see them, the effect of an event on a state, and a step
-- from one front to the next.
use Rattle.check_flight.specs.Words.{ℕ, nat_le, List, length, map, take, IfSome, [], drop, Bool}
use Rattle.check_flight.specs.Words.{Contains, Option, slice_index_or, FileEntry, Identity, Asked}
use Rattle.check_flight.specs.Words.{all_asked, Permits, table_of_slots, ring_of_slots, Access}
use Rattle.check_flight.specs.Words.{Looks, IsNext, Rest, Rules, over, rules_of, step, rest_in}
use Rattle.check_flight.specs.Words.{not_begun, run_at, Happening, all_happenings, first_of_call}
use Rattle.check_flight.specs.Words.{AllSettled, IsLegalBy, RingState, WaitingLook, Slots, Faulty}
use Rattle.check_flight.specs.Words.{Legal, NotLegal, Undecided}
use Rattle.std.specs.Prelude.{◌≡◌, ◌+◌, ◌-◌, ◌≤◌, if◌then◌else◌, ◌⊎◌}
use Rattle.check_flight.specs.States.{AreWaitsDenied, FlightView, IsFollowed, IsLookDenied}
use Rattle.check_flight.specs.States.{IsStateFollowed, AreFollowed, ArePassed, HasNoFlightBy, IsLed}
use Rattle.check_flight.specs.States.{IsNumbered, IsOneDenied, IsStopped, StepsByAccess, runs_with}
use Rattle.check_flight.specs.States.{AreCalls, AreReached, IsInTurnIf}
use Rattle.check_flight.specs.declared.reached.ReachedStates.{ReachedStates}
use Rattle.check_flight.specs.declared.judged.ChainCall.{ChainCall}
use Rattle.check_flight.specs.declared.judged.JudgedLog.{JudgedLog}
use Rattle.check_flight.specs.declared.state.FlightState.{FlightState}
use Rattle.check_flight.specs.declared.verdict.FlightVerdict.{FlightVerdict}
use Rattle.check_flight.specs.Reasons.{IsReasonOf}
use Rattle.check_flight.specs.declared.passage.Passage.{Passage}
use Rattle.check_flight.specs.declared.passage.Passage.TheVariants.{Stops, Leads, IsUnfit}

-- a list that the other one begins with
abbrev pub IsFrontOf : {X : Type 0} → List X → List X → Type 0
IsFrontOf before after = take (length before) after ≡ before

abbrev pub log_in : JudgedLog → List Happening
log_in log = all_happenings log.events.now

abbrev pub catalogue_in : JudgedLog → List FileEntry
catalogue_in log = log.setting.catalogue.now

abbrev pub rules_of_log : JudgedLog → Rules
rules_of_log log = rules_of (catalogue_in log) log.setting.size

abbrev pub requests_of : ChainCall → List Asked
requests_of call = all_asked call.requests.now

-- the chains that are called, the first one first
abbrev pub runs_of_calls : List ChainCall → List (List Asked)
runs_of_calls calls = map requests_of calls

-- where a call is. The calls up to `base` are over
abbrev pub rest_of : List (List Asked) → FlightState → ℕ → Rest
rest_of runs state id =
    if nat_le id state.base then over
    else rest_in (first_of_call id) (run_at runs id)
    (slice_index_or state.chains.items (id - 1 - state.base) not_begun)

-- the state, without the first `count` calls of its list, after `over` calls that are over
pub record IsCopy (state : FlightState) (over count : ℕ) (copy : FlightState) : Type 0 where
  pub table : table_of_slots copy.slots ≡ table_of_slots state.slots
  pub base : copy.base ≡ over
  pub chains : copy.chains.items ≡ drop count state.chains.items
  pub removed : copy.removed.items ≡ state.removed.items
  pub waiting : copy.waiting.items ≡ state.waiting.items

abbrev pub flight_view : List (List Asked) → FlightState → FlightView
flight_view runs state = record {
  table = table_of_slots state.slots;
  rests = rest_of runs state;
  removed = state.removed.items;
  waiting = state.waiting.items;
}

abbrev pub flight_views : List (List Asked) → List FlightState → List FlightView
flight_views runs states = map (flight_view runs) states

-- an access of a call, if the table permits it, is followed
abbrev pub IsAccessFollowed : JudgedLog → List (List Asked) → List FlightState → FlightState → ℕ
    → Access → Type 0
IsAccessFollowed log runs states state id a =
    Permits (table_of_slots state.slots) a
    → IsInTurnIf log.whole (length runs) (flight_view runs state) id
    → IsFollowed (rules_of_log log) (log_in log) (flight_views runs states)
    (flight_view runs state) id a

-- each access that a call may make next is followed
abbrev pub IsCallFollowed : JudgedLog → List (List Asked) → List FlightState → FlightState → ℕ
    → Type 0
IsCallFollowed log runs states state id =
    (a : Access) → IsNext (catalogue_in log) log.setting.size (rest_of runs state id) a
    → IsAccessFollowed log runs states state id a

-- each access that a call may make next in a state is followed, and each look that waits there is
-- denied
abbrev pub IsWhollyFollowed : JudgedLog → List ChainCall → List FlightState → FlightView → Type 0
IsWhollyFollowed log calls states state =
    IsStateFollowed log.whole (catalogue_in log) log.setting.size (log_in log)
    (length (runs_of_calls calls)) (flight_views (runs_of_calls calls) states) state
    × AreWaitsDenied log.whole (log_in log) (length (runs_of_calls calls)) state

-- the event after `read` does this to the state
abbrev pub IsPassage : JudgedLog → List (List Asked) → List Happening → FlightState → Happening
    → Passage → Type 0
IsPassage log runs read state event Stops =
    IsInTurnIf log.whole (length runs) (flight_view runs state) 0
    → IsStopped (rules_of_log log) (log_in log) runs read (flight_view runs state) event
IsPassage log runs read state event (Leads next) =
    IsLed (rules_of_log log) (flight_view runs state)
    (flight_view (runs_with runs event) next) event
IsPassage log runs read state event IsUnfit = Unit {0}

-- the access of a call does this to the state
abbrev pub IsAccessPassage : JudgedLog → List (List Asked) → FlightState → ℕ → Access → Passage
    → Type 0
IsAccessPassage log runs state id a Stops = Permits (table_of_slots state.slots) a
    → IsInTurnIf log.whole (length runs) (flight_view runs state) id
    → IsOneDenied (log_in log) (step (rules_of_log log) (rest_of runs state id) a).0
IsAccessPassage log runs state id a (Leads next) =
    StepsByAccess (rules_of_log log) (flight_view runs state) id a (flight_view runs next)
IsAccessPassage log runs state id a IsUnfit = Unit {0}

-- the passage leads to no state, or to one of these
abbrev pub IsTakenIn : List FlightState → Passage → Type 0
IsTakenIn states Stops = Unit {0}
IsTakenIn states (Leads next) =
    (runs : List (List Asked)) → Contains (flight_views runs states) (flight_view runs next)
IsTakenIn states IsUnfit = ⊥

-- the event is impossible in the state, or leads to one of the next states
abbrev pub IsStatePassed : JudgedLog → List (List Asked) → List Happening → List FlightState
    → Happening → FlightView → Type 0
IsStatePassed log runs read nexts event state =
    IsInTurnIf log.whole (length runs) state 0
    → IsStopped (rules_of_log log) (log_in log) runs read state event
    ⊎ ((next : FlightView) × Contains (flight_views (runs_with runs event) nexts) next
    × IsLed (rules_of_log log) state next event)

-- the event at a position
abbrev pub event_at : JudgedLog → ℕ → Happening
event_at log at = slice_index_or (log_in log) at AllSettled

-- after the event at a position, these calls and states follow those before it
pub record IsNextFront (log : JudgedLog) (at : ℕ) (calls : List ChainCall)
    (states : List FlightState) (more : List ChainCall) (nexts : List FlightState) : Type 0 where
  pub runs : runs_of_calls more ≡ runs_with (runs_of_calls calls) (event_at log at)
  pub numbered : IsNumbered (length calls) (event_at log at)
  pub passed : ArePassed log.whole (rules_of_log log) (log_in log) (runs_of_calls calls)
      (take at (log_in log)) (flight_views (runs_of_calls calls) states)
      (flight_views (runs_with (runs_of_calls calls) (event_at log at)) nexts) (event_at log at)
  pub closed : AreFollowed log.whole (catalogue_in log) log.setting.size (log_in log)
      (length (runs_of_calls more)) (flight_views (runs_of_calls more) nexts)

-- each flight of the first `at` events leads to one of these states, if its answers are those of
-- the log; with `whole` each one by whole updates
pub record IsReachedBy (whole : Bool) (old : RingState) (log : List Happening) (at : ℕ)
    (calls : List ChainCall) (states : List FlightState) : Type 0 where
  pub within : at ≤ length log
  pub called : AreCalls (runs_of_calls calls) (take at log)
  pub reached : AreReached whole old log (runs_of_calls calls) (take at log)
      (flight_views (runs_of_calls calls) states)

abbrev pub IsReached : Bool → RingState → List Happening → ReachedStates → Type 0
IsReached whole old log reached =
    IsReachedBy whole old log reached.at reached.calls.items reached.front.states.items

-- the same of a log from these slots on
abbrev pub IsReachedFrom : JudgedLog → Slots → List Happening → ReachedStates → Type 0
IsReachedFrom log slots events reached = (submissions registrations : ℕ)
    → IsReached log.whole (ring_of_slots (catalogue_in log) slots submissions registrations) events
    reached

-- the first `count` events have no flight from these slots on, or none by whole updates
abbrev pub HaveNoFlight : JudgedLog → Slots → ℕ → Type 0
HaveNoFlight log slots count = (submissions registrations : ℕ)
    → HasNoFlightBy log.whole
    (ring_of_slots (catalogue_in log) slots submissions registrations) (take count (log_in log))

-- the log has a flight from these slots on, by whole updates if these are required
abbrev pub HaveFlight : JudgedLog → Slots → Type 0
HaveFlight log slots = (submissions registrations : ℕ)
    → IsLegalBy log.whole
    (ring_of_slots (catalogue_in log) slots submissions registrations) (log_in log)

-- the verdict on events that are a log is right
abbrev pub IsRight : JudgedLog → Slots → FlightVerdict → Type 0
IsRight log slots (Faulty fault) = ⊥
IsRight log slots (NotLegal at reason) = HaveNoFlight log slots (at + 1)
    × IfSome reason (IsReasonOf (catalogue_in log) slots log.events.now (at + 1))
IsRight log slots Legal = HaveFlight log slots
IsRight log slots Undecided = Unit {0}

-- the table has as many slots as the log says
abbrev pub IsTableOf : JudgedLog → Slots → Type 0
IsTableOf log slots = log.setting.size ≡ length slots.at.items

-- the state before the first event: the table, no removed file, no look
pub record IsInitialState (slots : Slots) (state : FlightState) : Type 0 where
  pub table : table_of_slots state.slots ≡ table_of_slots slots
  pub removed : state.removed.items ≡ []
  pub waiting : state.waiting.items ≡ []

-- a look that waits in a state, and is in turn there, finds what the log denies
abbrev pub IsWaitDeniedIn : JudgedLog → List ChainCall → FlightState → WaitingLook → Type 0
IsWaitDeniedIn log calls state look = (found : Option Identity)
    → Permits (table_of_slots state.slots) (Looks look.slot found)
    → IsInTurnIf log.whole (length (runs_of_calls calls))
    (flight_view (runs_of_calls calls) state) look.id
    → IsLookDenied (log_in log) look.id found

-- a look that waits in a table with these slots finds there what the log denies
abbrev pub IsWaitDenied : JudgedLog → Slots → WaitingLook → Type 0
IsWaitDenied log slots look =
    (found : Option Identity) → Permits (table_of_slots slots) (Looks look.slot found)
    → IsLookDenied (log_in log) look.id found
