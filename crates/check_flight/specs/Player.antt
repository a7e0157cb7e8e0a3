-- A flight that the player makes move by move.
use Rattle.check_flight.specs.Words.{ℕ, true, List, [], length, map, take, slice_index_or, nat_eq}
use Rattle.check_flight.specs.Words.{Contains, IsTrue, None, Option, Some, IndexSet, contains}
use Rattle.check_flight.specs.Words.{Identity, Completed, all_completed, Asked, all_asked}
use Rattle.check_flight.specs.Words.{RingState, table_of, table_of_slots, Access, Looks, Happening}
use Rattle.check_flight.specs.Words.{Called, LookCalled, LookAnswered, Freed, FileClosed}
use Rattle.check_flight.specs.Words.{first_of_call, IsFlight, IsLookDone, Moment, WasLogged, log_of}
use Rattle.check_flight.specs.Words.{made_by, FlightSetting, table_left_by, taken_in}
use Rattle.check_flight.specs.Words.{IsBetweenMembers, IsWholeIf, HeldFile, CallPlan}
use Rattle.std.specs.Prelude.{◌≡◌, ◌⊎◌, ◌+◌, ◌*◌, ◌-◌, ◌%◌, ◌<◌, ◌≤◌, ◌∷◌, ◌++◌}
use Rattle.fx_base.specs.declared.mark.Mark.{Mark}
use Rattle.fx_base.specs.declared.mark.Mark.TheVariants.{Registered, Submitted}
use Rattle.fx_order.specs.Requests.{IsChainDone}
use Rattle.check_flight.specs.Judged.{catalogue_in}
use Rattle.check_flight.specs.States.{setting_of}
use Rattle.check_flight.specs.declared.judged.JudgedLog.{JudgedLog}
use Rattle.check_flight.specs.declared.plan.CallKind.{CallKind}
use Rattle.check_flight.specs.declared.plan.CallKind.TheVariants.{Chain, Look}
use Rattle.check_flight.specs.declared.player.FlightPlayer.{FlightPlayer}
use Rattle.check_flight.specs.declared.player.FlightCall.{FlightCall}

abbrev pub answers_of_plan : CallPlan → List Completed
answers_of_plan plan = all_completed plan.answers.items

abbrev pub accesses_of_plan : CallPlan → List Access
accesses_of_plan plan = plan.accesses.items

-- what each call answers in the end, by its number
abbrev pub answers_in : List CallPlan → ℕ → List Completed
answers_in plans id = slice_index_or (map answers_of_plan plans) (id - 1) []

-- the accesses that each call makes in the end
abbrev pub accesses_in : List CallPlan → ℕ → List Access
accesses_in plans id = slice_index_or (map accesses_of_plan plans) (id - 1) []

-- the requests of a call are done by these accesses, with these answers
abbrev pub IsCallDone : JudgedLog → ℕ → List Asked → List Access → List Completed → Type 0
IsCallDone log id requests accesses answers =
    IsChainDone (catalogue_in log) log.setting.size (first_of_call id) requests accesses answers

-- a member of a call has this answer, and has made its accesses
pub record IsMemberMade (log : JudgedLog) (plan : CallPlan) (requests : List Asked) (made id : ℕ)
    (c : Completed) : Type 0 where
  -- its position among the members, from 0
  pub at : ℕ
  pub inside : at < length (answers_of_plan plan)
  pub answer : slice_index_or (answers_of_plan plan) at c ≡ c
  -- the number of accesses that it and those before it have made
  pub own : ℕ
  pub few : own ≤ made
  pub done : IsCallDone log id (take (at + 1) requests)
      (take own plan.accesses.items) (take (at + 1) (answers_of_plan plan))

-- a look of a slot makes one access, or none
abbrev pub IsLookPlan : ℕ → List Access → Type 0
IsLookPlan slot accesses =
    (accesses ≡ []) ⊎ ((found : Option Identity) × (accesses ≡ Looks slot found ∷ []))

-- this number of accesses of a chain are all accesses of its first members
abbrev pub AreWholeMembers : JudgedLog → ℕ → List Asked → CallPlan → ℕ → Type 0
AreWholeMembers log id requests plan made =
    (count : ℕ) × IsCallDone log id (take count requests) (take made plan.accesses.items)
    (take count (answers_of_plan plan))

-- a call that made this number of its accesses is a look, or these are all accesses of its first
-- members
abbrev pub IsMembersEnd : JudgedLog → ℕ → CallKind → CallPlan → ℕ → Type 0
IsMembersEnd log id (Chain requests) plan made =
    AreWholeMembers log id (all_asked requests.now) plan made
IsMembersEnd log id (Look slot) plan made = Unit {0}

-- each call but this one is between members
abbrev pub AreBetween : FlightSetting → List Moment → Option ℕ → Type 0
AreBetween s flight amid = (id : ℕ) → (amid ≡ Some id → ⊥) → IsBetweenMembers s flight id

-- the event that begins a call
abbrev pub begun_by : ℕ → CallKind → Happening
begun_by id (Chain requests) = Called id (all_asked requests.now)
begun_by id (Look slot) = LookCalled id slot

-- a call may make these accesses, and have these answers
abbrev pub IsPlanned : JudgedLog → ℕ → CallKind → List Access → List Completed → Type 0
IsPlanned log id (Chain requests) accesses answers =
    IsCallDone log id (all_asked requests.now) accesses answers
IsPlanned log id (Look slot) accesses answers = IsLookPlan slot accesses

-- the call was logged, and its plan fits it
abbrev pub IsCallLogged : JudgedLog → List CallPlan → List Moment → ℕ → CallKind → Type 0
IsCallLogged log plans flight id kind =
    WasLogged flight (begun_by id kind)
    × IsPlanned log id kind (accesses_in plans id) (answers_in plans id)

-- a call of a flight has made as many of its accesses as the player counts
pub record IsCallMade (log : JudgedLog) (plans : List CallPlan) (flight : List Moment) (id : ℕ)
    (call : FlightCall) : Type 0 where
  pub logged : IsCallLogged log plans flight id call.kind
  pub made : made_by id flight ≡ take call.made (accesses_in plans id)

-- each call that the player has begun has, and the others have made none
pub record AreCallsMade (log : JudgedLog) (plans : List CallPlan) (flight : List Moment)
    (calls : List FlightCall) : Type 0 where
  pub each : (k : ℕ) (d : FlightCall) → k < length calls
      → IsCallMade log plans flight (k + 1) (slice_index_or calls k d)
  pub unmade : (id : ℕ) → length calls < id → made_by id flight ≡ []

-- a number of a file, by its mark
abbrev pub mark_number : Mark → ℕ
mark_number (Registered k i) = 35184372088832 + i
mark_number (Submitted submission chain member entry) =
    submission * 4096 + (member % 64 * 64 + entry % 64)

abbrev pub file_number : Identity → ℕ
file_number file = mark_number file.mark

-- the number of the file is one of these
abbrev pub IsMarked : {S : Type 0} → IndexSet ℕ S → Identity → Type 0
IsMarked closed file = contains nat_eq closed (file_number file) ≡ true

-- the files that were taken, and those of them that were closed
pub record AreFilesTaken {S : Type 0} (flight : List Moment) (files : List Identity)
    (marked : IndexSet ℕ S) : Type 0 where
  pub taken : (file : Identity) → Contains (taken_in flight) file
      → Contains files file ⊎ WasLogged flight (FileClosed file)
  pub left : (file : Identity) → Contains files file
      → Contains (taken_in flight) file × (WasLogged flight (FileClosed file) → ⊥)
  pub closed : (file : Identity) → WasLogged flight (FileClosed file) → IsMarked marked file

-- each file that a look found is held, or its hold has begun to end
abbrev pub AreFoundHeld : List Moment → List HeldFile → Type 0
AreFoundHeld flight holds =
    (id : ℕ) (file : Identity) → WasLogged flight (LookAnswered id (Some file))
    → Contains holds (record { id = id; file = file }) ⊎ WasLogged flight (Freed id)

-- the player has made a flight of these events
pub record HasMadeFlight (old : RingState) (log : JudgedLog) (plans : List CallPlan)
    (read : List Happening) (player : FlightPlayer) : Type 0 where
  pub flight : List Moment
  pub is : IsFlight (setting_of old (answers_in plans)) flight
  pub whole : IsWholeIf log.whole (setting_of old (answers_in plans)) flight
  pub between : IsTrue log.whole → AreBetween (setting_of old (answers_in plans)) flight player.amid
  pub logged : log_of flight ≡ read
  pub table : table_of_slots player.slots ≡ table_left_by (table_of old) flight
  pub calls : AreCallsMade log plans flight player.calls.items
  pub files : AreFilesTaken flight player.removed.items player.closed
  pub holds : AreFoundHeld flight player.holds.items

-- the answer of a look is what its access found, and the file isn't closed
pub record IsLookAnswered (size : ℕ) (plans : List CallPlan) (player : FlightPlayer) (id : ℕ)
    (found : Option Identity) : Type 0 where
  -- its position among the calls, from 0
  pub at : ℕ
  pub is : id ≡ at + 1
  pub inside : at < length player.calls.items
  pub slot : ℕ
  pub call : FlightCall
  pub here : slice_index_or player.calls.items at call ≡ call
  pub kind : call.kind ≡ Look slot
  pub done : IsLookDone size slot (take call.made (accesses_in plans id)) found
  pub unclosed : (file : Identity) → found ≡ Some file → IsMarked player.closed file → ⊥

-- the ring has the catalogue and the size by which a log is judged
pub record IsRingOf (old : RingState) (log : JudgedLog) : Type 0 where
  pub catalogue : old.catalogue ≡ catalogue_in log
  pub size : old.size ≡ log.setting.size

-- a flight of these events follows, whatever flight the player had made
abbrev pub MovesOn : JudgedLog → List CallPlan → List Happening → FlightPlayer → List Happening
    → FlightPlayer → Type 0
MovesOn log plans read player more next = (old : RingState) → IsRingOf old log
    → HasMadeFlight old log plans read player → HasMadeFlight old log plans more next

-- a flight with an event more follows, if no call is amid an update
abbrev pub Follows : JudgedLog → List CallPlan → FlightPlayer → Happening → FlightPlayer → Type 0
Follows log plans player event next =
    (read : List Happening) → player.amid ≡ None
    → MovesOn log plans read player (read ++ event ∷ []) next
