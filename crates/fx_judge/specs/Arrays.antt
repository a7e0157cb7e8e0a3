-- The files and the events of a log, which C passes as arrays of structs of fixed size.
use Rattle.std.specs.Prelude.{ℕ, ◌==◌, ◌||◌, nat_lt, ℤ, List, [], length, Some, None}
use Rattle.std.specs.Prelude.{Result, Ok, Err, Bool, is_some, ok_or, if◌then◌else◌}
use Rattle.fx_base.specs.AddFault.{add_fault_of}
use Rattle.fx_base.specs.Catalogue.{FileEntry, name_at}
use Rattle.fx_base.specs.Identity.{Identity}
use Rattle.fx_chain.specs.Answers.{installed}
use Rattle.fx_chain.specs.Completed.{Completed, completed}
use Rattle.fx_chain.specs.Operation.{Asked, Operation, Opens, Reads, Closes, Updates}
use Rattle.fx_chain.specs.declared.completion.Place.{Place}
use Rattle.fx_chain.specs.declared.request.Target.{Target}
use Rattle.fx_chain.specs.declared.request.Target.TheVariants.{Slot, Any}
use Rattle.fx_flight.specs.Events.{Happening, Called, Answered, LookCalled, LookAnswered, Freed}
use Rattle.fx_flight.specs.Events.{FileClosed, AllSettled}
use Rattle.fx_judge.specs.Reading.{◌>>>◌, all_after, part_passed}
use Rattle.fx_judge.specs.declared.codes.TheConstants.{EVENT_CALL, EVENT_DONE, EVENT_LOOK}
use Rattle.fx_judge.specs.declared.codes.TheConstants.{EVENT_FOUND, EVENT_EMPTY, EVENT_FREE}
use Rattle.fx_judge.specs.declared.codes.TheConstants.{EVENT_CLOSED, EVENT_SETTLED, FLAW_EVENT}
use Rattle.fx_judge.specs.declared.codes.TheConstants.{FLAW_REQUEST, FLAW_FLAGS, FLAW_FILE}
use Rattle.fx_judge.specs.declared.codes.TheConstants.{FLAW_RANGE, REQUEST_OPEN, REQUEST_OPEN_ANY}
use Rattle.fx_judge.specs.declared.codes.TheConstants.{REQUEST_OPEN_MISSING, REQUEST_READ}
use Rattle.fx_judge.specs.declared.codes.TheConstants.{REQUEST_CLOSE, REQUEST_UPDATE}
use Rattle.fx_judge.specs.declared.events.YachtEvent.{YachtEvent}
use Rattle.fx_judge.specs.declared.events.YachtFile.{YachtFile}
use Rattle.fx_judge.specs.declared.events.YachtRequest.{YachtRequest}
use Rattle.fx_judge.specs.declared.logs.CallLog.{CallLog}
use Rattle.fx_judge.specs.declared.unread.LogRefusal.{LogRefusal}
use Rattle.fx_judge.specs.declared.unread.LogRefusal.TheVariants.{BadFile, Malformed}

-- a file after those before it in a catalogue: both of its parts are there, and the catalogue takes
-- it; its position is the number of those before it
abbrev pub file_passed : List ℕ → List FileEntry → YachtFile → Result FileEntry LogRefusal
file_passed bytes before f =
    part_passed bytes f.name f.name_length (BadFile (length before)) >>> λ name.
    part_passed bytes f.first f.count (BadFile (length before)) >>> λ content.
    if is_some (add_fault_of before name content) then Err (BadFile (length before))
    else Ok (record { name = name; bytes = content })

-- a log as C passes it: the files of the catalogue, the number of slots of the table, and the
-- arrays
pub record PassedLog : Type 0 where
  pub files : List YachtFile
  pub slots : ℕ
  pub requests : List YachtRequest
  pub entries : List ℤ
  pub bytes : List ℕ
  pub events : List YachtEvent

abbrev pub passed : List YachtFile → ℕ → List YachtRequest → List ℤ → List ℕ → List YachtEvent
    → PassedLog
passed files slots requests entries bytes events = record {
  files = files;
  slots = slots;
  requests = requests;
  entries = entries;
  bytes = bytes;
  events = events;
}

abbrev pub passed_log : CallLog → PassedLog
passed_log log =
    passed log.files.now log.slots log.requests.now log.entries.now log.bytes.now log.events.now

-- the operation of an open that the event at a position calls
abbrev pub opens_passed : List FileEntry → ℕ → ℕ → Target → Result Operation LogRefusal
opens_passed catalogue at file target =
    ok_or (name_at catalogue file) (Malformed at FLAW_FILE) >>> λ name.
    Ok (Opens name target)

-- the operation of a request
abbrev pub operation_passed : PassedLog → List FileEntry → ℕ → YachtRequest
    → Result Operation LogRefusal
operation_passed p catalogue at r =
    if r.kind == REQUEST_OPEN then opens_passed catalogue at r.file (Slot r.slot)
    else if r.kind == REQUEST_OPEN_ANY then opens_passed catalogue at r.file Any
    else if r.kind == REQUEST_OPEN_MISSING then Ok (Opens [] Any)
    else if r.kind == REQUEST_READ then Ok (Reads r.slot r.first r.count)
    else if r.kind == REQUEST_CLOSE then Ok (Closes r.slot)
    else if r.kind == REQUEST_UPDATE
    then (part_passed p.entries r.first r.count (Malformed at FLAW_RANGE) >>> λ list.
    Ok (Updates r.slot list))
    else Err (Malformed at FLAW_REQUEST)

-- sets of the flags 1, 4 and 8
abbrev pub are_known_flags : ℕ → Bool
are_known_flags flags =
    flags == 0 || flags == 1 || flags == 4 || flags == 5 || flags == 8 || flags == 9
    || flags == 12 || flags == 13

abbrev pub asked_passed : PassedLog → List FileEntry → ℕ → YachtRequest → Result Asked LogRefusal
asked_passed p catalogue at r =
    if are_known_flags r.flags
    then (operation_passed p catalogue at r >>> λ operation.
    Ok (record { operation = operation; flags = record { 0 = r.flags } }))
    else Err (Malformed at FLAW_FLAGS)

-- the requests of a call
abbrev pub chain_passed : PassedLog → List FileEntry → ℕ → YachtEvent
    → Result (List Asked) LogRefusal
chain_passed p catalogue at e =
    part_passed p.requests e.first e.count (Malformed at FLAW_RANGE)
    >>> all_after (λ _. asked_passed p catalogue at) []

-- the place of a member of a call, which is a submission of one chain
abbrev pub place_passed : ℕ → ℕ → Place
place_passed call member = record { submission = call; chain = 1; member = member }

abbrev pub answer_passed : PassedLog → ℕ → YachtEvent → Result Completed LogRefusal
answer_passed p at e =
    part_passed p.bytes e.first e.count (Malformed at FLAW_RANGE) >>> λ got.
    Ok (completed (place_passed e.call e.member) e.res got)

-- the file that was found or closed
abbrev pub named_passed : List FileEntry → ℕ → YachtEvent → Result Identity LogRefusal
named_passed catalogue at e =
    if nat_lt e.file (length catalogue)
    then Ok (installed (place_passed e.by_call e.by_member) e.by_entry e.file)
    else Err (Malformed at FLAW_FILE)

-- what the event at a position says
abbrev pub happening_passed : PassedLog → List FileEntry → ℕ → YachtEvent
    → Result Happening LogRefusal
happening_passed p catalogue at e =
    if e.kind == EVENT_CALL
    then (chain_passed p catalogue at e >>> λ chain. Ok (Called e.call chain))
    else if e.kind == EVENT_DONE
    then (answer_passed p at e >>> λ answer. Ok (Answered e.call answer))
    else if e.kind == EVENT_LOOK then Ok (LookCalled e.call e.slot)
    else if e.kind == EVENT_FOUND
    then (named_passed catalogue at e >>> λ file. Ok (LookAnswered e.call (Some file)))
    else if e.kind == EVENT_EMPTY then Ok (LookAnswered e.call None)
    else if e.kind == EVENT_FREE then Ok (Freed e.call)
    else if e.kind == EVENT_CLOSED
    then (named_passed catalogue at e >>> λ file. Ok (FileClosed file))
    else if e.kind == EVENT_SETTLED then Ok AllSettled
    else Err (Malformed at FLAW_EVENT)

-- what the events say; the position of each is the number of those before it
abbrev pub log_passed : PassedLog → List FileEntry → Result (List Happening) LogRefusal
log_passed p catalogue = all_after (λ said. happening_passed p catalogue (length said)) [] p.events
