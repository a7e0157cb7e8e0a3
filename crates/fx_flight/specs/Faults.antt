-- The reasons why a list of events is not a log.
use Rattle.fx_flight.specs.Words.{ℕ, nat_le, Bool, true, false, List, [], length, slice_get}
use Rattle.fx_flight.specs.Words.{slice_set, Option, Some, None, list_all, Identity, Asked, runs_of}
use Rattle.fx_flight.specs.Words.{Place}
use Rattle.std.specs.Prelude.{◌≡◌, ◌+◌, ◌-◌, ◌==◌, ◌&&◌, ◌∷◌, ◌++◌, if◌then◌else◌}
use Rattle.fx_chain.specs.Faults.{fault_of}
use Rattle.fx_chain.specs.declared.fault.CutFault.{CutFault}
use Rattle.fx_flight.specs.Events.{Happening, Called, Answered, LookCalled, LookAnswered, Freed}
use Rattle.fx_flight.specs.Events.{FileClosed, AllSettled}
use Rattle.fx_flight.specs.declared.fault.EventFault.{EventFault}
use Rattle.fx_flight.specs.declared.fault.EventFault.TheVariants.{WrongNumber, NotOneChain}
use Rattle.fx_flight.specs.declared.fault.EventFault.TheVariants.{NotCalled, OutOfTurn}
use Rattle.fx_flight.specs.declared.fault.EventFault.TheVariants.{AnsweredTwice, NotHeld, StillOpen}
use Rattle.fx_flight.specs.declared.fault.LogFault.{LogFault}
use Rattle.fx_flight.specs.declared.fault.CallProgress.{CallProgress}
use Rattle.fx_flight.specs.declared.fault.CallProgress.TheVariants.{Chain, Looking, Holding, Over}

-- the call with this number, from 1
abbrev pub call_at : List CallProgress → ℕ → Option CallProgress
call_at calls id = if id == 0 then None else slice_get calls (id - 1)

abbrev pub set_call : List CallProgress → ℕ → CallProgress → List CallProgress
set_call calls id call = slice_set calls (id - 1) call

-- one more member is answered
abbrev pub with_answer : Option CallProgress → CallProgress
with_answer (Some (Chain members answered)) = Chain members (answered + 1)
with_answer call = Over

-- a look that found this
abbrev pub with_found : Option Identity → CallProgress
with_found None = Over
with_found (Some file) = Holding

-- the progress of the calls after one more event
abbrev pub progress_after : List CallProgress → Happening → List CallProgress
progress_after calls (Called id requests) = calls ++ Chain (length requests) 0 ∷ []
progress_after calls (Answered id c) = set_call calls id (with_answer (call_at calls id))
progress_after calls (LookCalled id slot) = calls ++ Looking ∷ []
progress_after calls (LookAnswered id found) = set_call calls id (with_found found)
progress_after calls (Freed id) = set_call calls id Over
progress_after calls (FileClosed file) = calls
progress_after calls AllSettled = calls

-- no request has a fault, and they are this number of chains
abbrev pub is_one_of : Option CutFault → ℕ → Bool
is_one_of None chains = chains == 1
is_one_of (Some fault) chains = false

-- the requests are accepted as a submission, and are one chain
abbrev pub is_one_chain : List Asked → Bool
is_one_chain requests = is_one_of (fault_of requests) (length (runs_of requests))

abbrev pub fault_unless : Bool → EventFault → Option EventFault
fault_unless fits fault = if fits then None else Some fault

-- the place is that of a call's member with this number, from 1
abbrev pub is_member : Place → ℕ → Bool
is_member place member = (place.chain == 1) && (place.member == member)

-- of an answer, by the progress of its call
abbrev pub answer_fault : Place → Option CallProgress → Option EventFault
answer_fault place (Some (Chain members answered)) =
    if nat_le members answered then Some AnsweredTwice
    else fault_unless (is_member place (answered + 1)) OutOfTurn
answer_fault place call = Some NotCalled

abbrev pub found_fault : Option CallProgress → Option EventFault
found_fault (Some Looking) = None
found_fault (Some Holding) = Some AnsweredTwice
found_fault (Some Over) = Some AnsweredTwice
found_fault call = Some NotCalled

abbrev pub free_fault : Option CallProgress → Option EventFault
free_fault (Some Holding) = None
free_fault call = Some NotHeld

abbrev pub is_answered : CallProgress → Bool
is_answered (Chain members answered) = nat_le members answered
is_answered Looking = false
is_answered call = true

-- the fault of an event after those that led to this progress
abbrev pub event_fault : List CallProgress → Happening → Option EventFault
event_fault calls (Called id requests) =
    if id == length calls + 1 then fault_unless (is_one_chain requests) NotOneChain
    else Some WrongNumber
event_fault calls (Answered id c) = answer_fault c.place (call_at calls id)
event_fault calls (LookCalled id slot) = fault_unless (id == length calls + 1) WrongNumber
event_fault calls (LookAnswered id found) = found_fault (call_at calls id)
event_fault calls (Freed id) = free_fault (call_at calls id)
event_fault calls (FileClosed file) = None
event_fault calls AllSettled = fault_unless (list_all is_answered calls) StillOpen

-- the fault of an event at a position, or else the later one
abbrev pub or_in_rest : ℕ → Option EventFault → Option LogFault → Option LogFault
or_in_rest at None later = later
or_in_rest at (Some fault) later = Some (record { at = at; fault = fault })

-- the first event with a fault among these, which come after those that led to this progress; its
-- position is counted from `at` on
abbrev pub fault_of_log : ℕ → List CallProgress → List Happening → Option LogFault
fault_of_log at calls [] = None
fault_of_log at calls (event ∷ events) =
    or_in_rest at (event_fault calls event)
    (fault_of_log (at + 1) (progress_after calls event) events)

-- no event has a fault
abbrev pub IsFaultless : List Happening → Type 0
IsFaultless events = fault_of_log 0 [] events ≡ None
