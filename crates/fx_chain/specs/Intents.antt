-- The accesses that each kind of request intends at the table, in order, each before it is known
-- what it finds: their slots, the numbers and the room in a list of closes that they need, and the
-- answer of the request by what they found.
use Rattle.std.specs.Prelude.{◌≡◌, ◌≢◌, ℕ, zero, suc, ◌+◌, ◌<◌, ◌≤◌, Bool, true, false, ℤ, pos}
use Rattle.std.specs.Prelude.{negsuc, int_le, List, [], ◌∷◌, ◌++◌, length, filter, slice_get}
use Rattle.std.specs.Prelude.{Option, Some, None, MatchOption, if◌then◌else◌, take, drop}
use Rattle.std.specs.Str.{bytes_eq}
use Rattle.fx_base.specs.declared.errno.Errno.{Errno}
use Rattle.fx_base.specs.declared.errno.Errno.TheVariants.{EBADF, ENFILE}
use Rattle.fx_base.specs.Identity.{Identity}
use Rattle.fx_base.specs.Catalogue.{FileEntry, name_at, bytes_at}
use Rattle.fx_chain.specs.Answers.{installed}
use Rattle.fx_chain.specs.Completed.{Completed, completed, refusal}
use Rattle.fx_chain.specs.Operation.{Operation, Opens, Reads, Closes, Updates}
use Rattle.fx_chain.specs.Refusal.{refusal_of}
use Rattle.fx_chain.specs.declared.completion.Place.{Place}
use Rattle.fx_chain.specs.declared.intent.Finding.{Finding}
use Rattle.fx_chain.specs.declared.intent.Finding.TheVariants.{At, Free}
use Rattle.fx_chain.specs.declared.intent.Intent.{Intent}
use Rattle.fx_chain.specs.declared.intent.Intent.TheVariants.{Look, Put, Clear, Take, Allocate}
use Rattle.fx_chain.specs.declared.request.Target.{Target}
use Rattle.fx_chain.specs.declared.request.Target.TheVariants.{Slot, Any}

-- the catalogue entry that an open opens by its name, and 0 for another request
abbrev pub IsOpened : List FileEntry → Operation → ℕ → Type 0
IsOpened catalogue (Opens name target) entry = name_at catalogue entry ≡ Some name
IsOpened catalogue operation entry = entry ≡ 0

-- the place, counted from `at` on, of the entry with this name
abbrev pub entry_named : List ℕ → ℕ → List FileEntry → Option ℕ
entry_named name at [] = None
entry_named name at (file ∷ catalogue) =
    if bytes_eq file.name name then Some at else entry_named name (at + 1) catalogue

-- the entry that a request opens, as it is found, and 0 unless it is an open
abbrev pub opened_by : List FileEntry → Operation → Option ℕ
opened_by catalogue (Opens name target) = entry_named name 0 catalogue
opened_by catalogue operation = Some 0

-- of an open of this file
abbrev pub open_intent : Target → Identity → Intent
open_intent (Slot slot) file = Put slot file
open_intent Any file = Allocate file

-- of one entry of an update: its position in the list, and its slot. -1 empties the slot, a number
-- of 0 or more installs that catalogue entry, and any other number is a skip
abbrev pub entry_intents : Place → ℕ → ℕ → ℤ → List Intent
entry_intents place in_list slot (pos entry) = Put slot (installed place in_list entry) ∷ []
entry_intents place in_list slot (negsuc zero) = Clear slot ∷ []
entry_intents place in_list slot (negsuc (suc n)) = []

-- of the entries of an update from a position of its list on
abbrev pub list_intents : Place → ℕ → ℕ → List ℤ → List Intent
list_intents place in_list slot [] = []
list_intents place in_list slot (entry ∷ list) =
    entry_intents place in_list slot entry
    ++ list_intents place (in_list + 1) (slot + 1) list

-- of a request that isn't refused; an open opens this catalogue entry
abbrev pub intents_of : Place → ℕ → Operation → List Intent
intents_of place entry (Opens name target) = open_intent target (installed place 0 entry) ∷ []
intents_of place entry (Reads slot off len) = Look slot ∷ []
intents_of place entry (Closes slot) = Take slot ∷ []
intents_of place entry (Updates off list) = list_intents place 0 off list

-- this intent, but none if there is an error
abbrev pub none_if : Option Errno → Option Intent → Option Intent
none_if None intent = intent
none_if (Some errno) intent = None

-- the access that a request intends after `made` others, if there is one; an open opens this
-- catalogue entry
abbrev pub intent_by : List FileEntry → ℕ → Place → ℕ → Operation → ℕ → Option Intent
intent_by catalogue size place entry operation made =
    none_if (refusal_of catalogue size operation)
    (slice_get (intents_of place entry operation) made)

-- and an open opens an entry of its name
abbrev pub IsIntent : List FileEntry → ℕ → Place → Operation → ℕ → Option Intent → Type 0
IsIntent catalogue size place operation made intent =
    MatchOption (refusal_of catalogue size operation)
    ((entry : ℕ) × IsOpened catalogue operation entry
    × (intent ≡ slice_get (intents_of place entry operation) made))
    (λ errno. intent ≡ None)

-- the position, from `in_list` on, of each entry of a list that isn't a skip
abbrev pub positions_from : ℕ → List ℤ → List (Option ℕ)
positions_from in_list [] = []
positions_from in_list (entry ∷ list) =
    (if int_le (negsuc 0) entry then Some in_list ∷ [] else []) ++ positions_from (in_list + 1) list

-- for each access, in order, its position in the list of an update, or none for another request
abbrev pub positions_of : Operation → List (Option ℕ)
positions_of (Updates off list) = positions_from 0 list
positions_of _ = None ∷ []

-- this number, but 0 if there is an error
abbrev pub count_or_none : Option Errno → ℕ → ℕ
count_or_none None count = count
count_or_none (Some errno) count = 0

-- the number of accesses that a request intends
abbrev pub count_of : List FileEntry → ℕ → Operation → ℕ
count_of catalogue size operation =
    count_or_none (refusal_of catalogue size operation) (length (positions_of operation))

-- the position in its list at which a request may install a file
abbrev pub InstallsAt : Operation → ℕ → Type 0
InstallsAt (Opens name target) entry = entry ≡ 0
InstallsAt (Updates off list) entry = (file : ℕ) × (slice_get list entry ≡ Some (pos file))
InstallsAt _ entry = ⊥

-- the number of files that an entry of an update installs: 1 if it is 0 or more
abbrev pub entry_installs : ℤ → ℕ
entry_installs (pos entry) = 1
entry_installs (negsuc n) = 0

-- the number of files that the entries of an update install
abbrev pub list_installs : List ℤ → ℕ
list_installs list = length (filter (λ entry. int_le (pos 0) entry) list)

-- the number of files that a request installs
abbrev pub installs_of : Operation → ℕ
installs_of (Opens name target) = 1
installs_of (Updates off list) = list_installs list
installs_of _ = 0

-- the greatest number of files that a request may close
abbrev pub weight_of : Operation → ℕ
weight_of (Updates off list) = length list
weight_of _ = 1

-- the slots that a request may reach, by the allocation range
abbrev pub MayReach : ℕ × ℕ → Operation → ℕ → Type 0
MayReach range (Opens name (Slot own)) slot = slot ≡ own
MayReach range (Opens name Any) slot = (range.0 ≤ slot) × (slot < range.0 + range.1)
MayReach range (Reads own off len) slot = slot ≡ own
MayReach range (Closes own) slot = slot ≡ own
MayReach range (Updates off list) slot = (off ≤ slot) × (slot < off + length list)

-- the request changes no slot
abbrev pub is_read : Operation → Bool
is_read (Reads slot off len) = true
is_read operation = false

-- the number of bytes that a request asks for; without memory for them it makes no access
abbrev pub bytes_asked : Operation → ℕ
bytes_asked (Reads slot off len) = len
bytes_asked operation = 0

-- the bytes that a request reads of a file of a catalogue entry
abbrev pub bytes_read : List FileEntry → Operation → ℕ → List ℕ
bytes_read catalogue (Reads slot off len) entry = bytes_at catalogue entry off len
bytes_read catalogue operation entry = []

-- the part of a file's bytes that a request reads, none unless it is a read
abbrev pub part_read : Operation → List ℕ → List ℕ
part_read (Reads slot off len) bytes = take len (drop off bytes)
part_read operation bytes = []

-- the completion of a read of a file
abbrev pub completion_of_read : List FileEntry → Place → Identity → ℕ → ℕ → Completed
completion_of_read catalogue place file off len =
    completed place (pos (length (bytes_at catalogue file.entry off len)))
    (bytes_at catalogue file.entry off len)

-- the answer of an open at any slot
abbrev pub allocated : Place → Option Finding → Completed
allocated place (Some (Free slot)) = completed place (pos slot) []
allocated place found = refusal place ENFILE

abbrev pub open_answer : Place → Target → Option Finding → Completed
open_answer place (Slot slot) found = completed place (pos 0) []
open_answer place Any found = allocated place found

abbrev pub read_answer : List FileEntry → Place → ℕ → ℕ → Option Finding → Completed
read_answer catalogue place off len (Some (At (Some file))) =
    completion_of_read catalogue place file off len
read_answer catalogue place off len found = refusal place EBADF

abbrev pub close_answer : Place → Option Finding → Completed
close_answer place (Some (At (Some file))) = completed place (pos 0) []
close_answer place found = refusal place EBADF

-- the answer of a request that isn't refused, by what the last one of its accesses found
abbrev pub answer_at_table : List FileEntry → Place → Operation → Option Finding → Completed
answer_at_table catalogue place (Opens name target) found = open_answer place target found
answer_at_table catalogue place (Reads slot off len) found =
    read_answer catalogue place off len found
answer_at_table catalogue place (Closes slot) found = close_answer place found
answer_at_table catalogue place (Updates off list) found = completed place (pos (length list)) []

-- the result of a request that isn't refused depends on what the last one of its accesses found
abbrev pub DependsOnFindings : List FileEntry → Place → Operation → Type 0
DependsOnFindings catalogue place operation = (one : Option Finding) × (other : Option Finding)
    × ((answer_at_table catalogue place operation one).res
    ≢ (answer_at_table catalogue place operation other).res)

-- this answer, but the error if there is one
abbrev pub refusal_or : Place → Option Errno → Completed → Completed
refusal_or place None answer = answer
refusal_or place (Some errno) answer = refusal place errno

-- the answer of a request, by what the last one of its accesses found
abbrev pub answer_of : List FileEntry → ℕ → Place → Operation → Option Finding → Completed
answer_of catalogue size place operation found =
    refusal_or place (refusal_of catalogue size operation)
    (answer_at_table catalogue place operation found)
