-- The meaning of a verdict's number, for a log that C passes.
use Rattle.std.specs.Prelude.{◌≡◌, ◌≢◌, ◌≤◌, ◌<◌, ℕ, ◌+◌, nat_lt, Bool, List, [], length, take}
use Rattle.std.specs.Prelude.{Option, Some, None, Result, Ok, Err, if◌then◌else◌}
use Rattle.fx_base.specs.Catalogue.{FileEntry}
use Rattle.fx_ring.specs.Registration.{registered_sparse}
use Rattle.fx_ring.specs.Ring.{RingState, new_ring}
use Rattle.fx_flight.specs.Events.{Happening, all_happenings}
use Rattle.fx_flight.specs.Faults.{IsFaultless, fault_of_log}
use Rattle.fx_flight.specs.Whole.{IsLegalBy}
use Rattle.fx_flight.specs.declared.fault.EventFault.{EventFault}
use Rattle.fx_flight.specs.declared.fault.EventFault.TheVariants.{WrongNumber, NotOneChain}
use Rattle.fx_flight.specs.declared.fault.EventFault.TheVariants.{NotCalled, OutOfTurn}
use Rattle.fx_flight.specs.declared.fault.EventFault.TheVariants.{AnsweredTwice, NotHeld, StillOpen}
use Rattle.fx_flight.specs.declared.fault.LogFault.{LogFault}
use Rattle.check_flight.specs.States.{HasNoFlight, HasNoFlightBy}
use Rattle.check_flight.specs.declared.verdict.FlightVerdict.{FlightVerdict}
use Rattle.check_flight.specs.declared.verdict.FlightVerdict.TheVariants.{Faulty, NotLegal, Legal}
use Rattle.check_reason.specs.declared.reason.LogReason.{LogReason}
use Rattle.fx_judge.specs.Arrays.{PassedLog, file_passed, log_passed}
use Rattle.fx_judge.specs.Reading.{◌>>>◌, all_after}
use Rattle.fx_judge.specs.declared.codes.TheConstants.{LEGAL, NOT_LEGAL, UNDECIDED, FAULTY}
use Rattle.fx_judge.specs.declared.codes.TheConstants.{BAD_FILE, MALFORMED, MOST_LOG_SLOTS}
use Rattle.fx_judge.specs.declared.codes.TheConstants.{NO_MEMORY, TOO_MANY_SLOTS}
use Rattle.fx_judge.specs.declared.codes.TheConstants.{FAULT_WRONG_NUMBER, FAULT_NOT_ONE_CHAIN}
use Rattle.fx_judge.specs.declared.codes.TheConstants.{FAULT_NOT_CALLED, FAULT_OUT_OF_TURN}
use Rattle.fx_judge.specs.declared.codes.TheConstants.{FAULT_ANSWERED_TWICE, FAULT_NOT_HELD}
use Rattle.fx_judge.specs.declared.codes.TheConstants.{FAULT_STILL_OPEN}
use Rattle.fx_judge.specs.declared.flights.YachtJudgement.{YachtJudgement}
use Rattle.fx_judge.specs.declared.logs.ReadLog.{ReadLog}
use Rattle.fx_judge.specs.declared.unread.LogRefusal.{LogRefusal}
use Rattle.fx_judge.specs.declared.unread.LogRefusal.TheVariants.{BadFile, Malformed, TooManySlots}
use Rattle.fx_judge.specs.declared.unread.Unread.{Unread}
use Rattle.fx_judge.specs.declared.unread.Unread.TheVariants.{Refused}

-- a log that was read: the files that its requests can open, and what its events say
pub record Reading : Type 0 where
  pub catalogue : List FileEntry
  pub log : List Happening

abbrev pub reading_in : ReadLog → Reading
reading_in read = record { catalogue = read.catalogue; log = all_happenings read.events.items }

-- the log, or the first thing that is wrong with it
abbrev pub reading_passed : PassedLog → Result Reading LogRefusal
reading_passed p =
    if nat_lt MOST_LOG_SLOTS p.slots then Err TooManySlots
    else (all_after (file_passed p.bytes) [] p.files >>> λ catalogue.
    log_passed p catalogue >>> λ log.
    Ok (record { catalogue = catalogue; log = log }))

-- the log is read, and this is true of it and of the ring before it, where all slots are empty and
-- in the allocation range
pub record IsReadAs (says : RingState → List Happening → Type 0) (p : PassedLog) : Type 0 where
  pub reading : Reading
  pub read : reading_passed p ≡ Ok reading
  pub so : says (registered_sparse (new_ring reading.catalogue) p.slots) reading.log

-- the number of a fault
abbrev pub number_of_fault : EventFault → ℕ
number_of_fault WrongNumber = FAULT_WRONG_NUMBER
number_of_fault NotOneChain = FAULT_NOT_ONE_CHAIN
number_of_fault NotCalled = FAULT_NOT_CALLED
number_of_fault OutOfTurn = FAULT_OUT_OF_TURN
number_of_fault AnsweredTwice = FAULT_ANSWERED_TWICE
number_of_fault NotHeld = FAULT_NOT_HELD
number_of_fault StillOpen = FAULT_STILL_OPEN

-- the events aren't a log: the one at this position has the first fault
abbrev pub HasEventFault : ℕ → ℕ → List Happening → Type 0
HasEventFault at number log =
    (fault : EventFault) × (fault_of_log 0 [] log ≡ Some (record { at = at; fault = fault }))
    × (number ≡ number_of_fault fault)

abbrev pub steps_in : Option LogReason → ℕ
steps_in None = 0
steps_in (Some reason) = length reason.steps.items

-- the number and the details of a verdict
pub record IsNumberOf (verdict : FlightVerdict) (number : ℕ) (details : YachtJudgement)
    : Type 0 where
  pub known : number ≤ FAULTY
  pub memory : number ≢ NO_MEMORY
  pub legal : number ≡ LEGAL → verdict ≡ Legal
  pub not_legal : number ≡ NOT_LEGAL → (reason : Option LogReason)
      × (verdict ≡ NotLegal details.at reason) × (details.steps ≡ steps_in reason)
  pub judged : number ≤ UNDECIDED → (fault : LogFault) → verdict ≢ Faulty fault
  pub faulty : number ≡ FAULTY → (fault : LogFault) × (verdict ≡ Faulty fault)
      × (details.at ≡ fault.at) × (details.fault ≡ number_of_fault fault.fault)

-- the number and the details of a log that isn't read
pub record IsUnreadNumber (why : Unread) (number : ℕ) (details : YachtJudgement) : Type 0 where
  pub known : number ≤ BAD_FILE
  pub unjudged : UNDECIDED < number
  pub no_fault : number ≢ FAULTY
  pub bad_file : number ≡ BAD_FILE → why ≡ Refused (BadFile details.at)
  pub malformed : number ≡ MALFORMED → why ≡ Refused (Malformed details.at details.fault)
  pub too_many : number ≡ TOO_MANY_SLOTS → why ≡ Refused TooManySlots

-- a number that says why the log wasn't read, and its details
pub record IsLogRefusal (p : PassedLog) (number at flaw : ℕ) : Type 0 where
  pub known : number ≤ BAD_FILE
  pub bad_file : number ≡ BAD_FILE → reading_passed p ≡ Err (BadFile at)
  pub malformed : number ≡ MALFORMED → reading_passed p ≡ Err (Malformed at flaw)
  pub too_many : number ≡ TOO_MANY_SLOTS → reading_passed p ≡ Err TooManySlots

-- a number and the details of a log that was judged; with `whole` by whole updates
pub record IsLogVerdict (whole : Bool) (p : PassedLog) (number : ℕ) (details : YachtJudgement)
    : Type 0 where
  pub refused : IsLogRefusal p number details.at details.fault
  pub legal : number ≡ LEGAL → IsReadAs (IsLegalBy whole) p
  -- up to and with the event at the position the log has no flight in which each request finds
  -- memory
  pub not_legal : number ≡ NOT_LEGAL
      → IsReadAs (λ ring log. HasNoFlightBy whole ring (take (details.at + 1) log)) p
  -- with a reason none by the entries of updates, either
  pub reason : number ≡ NOT_LEGAL → 0 < details.steps
      → IsReadAs (λ ring log. HasNoFlight ring (take (details.at + 1) log)) p
  pub judged : number ≤ UNDECIDED → IsReadAs (λ _ log. IsFaultless log) p
  pub faulty : number ≡ FAULTY → IsReadAs (λ _ log. HasEventFault details.at details.fault log) p
