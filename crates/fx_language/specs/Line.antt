-- The meaning of a script's line that isn't skipped, or its first fault.
use Rattle.std.specs.Prelude.{ℕ, ℤ, Bool, true, false, List, [], ◌∷◌, codes, Option, Some, None}
use Rattle.std.specs.Prelude.{option_map, Result, Ok, Err, ok_or, if◌then◌else◌}
use Rattle.std.specs.Str.{bytes_eq}
use Rattle.fx_base.specs.Name.{is_name}
use Rattle.fx_chain.specs.declared.request.Target.TheVariants.{Slot, Any}
use Rattle.fx_chain.specs.declared.flags.SqeFlags.{SqeFlags}
use Rattle.fx_chain.specs.Operation.{Operation, Opens, Reads, Closes, Updates, Asked, no_flags}
use Rattle.fx_chain.specs.Operation.{fixed_file, io_link, io_hardlink, both_flags}
use Rattle.fx_language.specs.declared.fault.ScriptFault.{ScriptFault}
use Rattle.fx_language.specs.declared.fault.ScriptFault.TheVariants.{UnknownCommand, LateFile}
use Rattle.fx_language.specs.declared.fault.ScriptFault.TheVariants.{WordCount, BadWord, BadName}
use Rattle.fx_language.specs.declared.fault.ScriptFault.TheVariants.{BadNumber, BadEntry, BadTag}
use Rattle.fx_language.specs.Instruction.{Instruction, MakesSparse, RegistersList, Unregisters}
use Rattle.fx_language.specs.Instruction.{SetsRange, UpdatesRing}
use Rattle.fx_language.specs.Words.{decimal_of, list_of, tag_list_of}

pub data Line : Type 0 where
  -- the name, and the word for the bytes
  FileLine : List ℕ → List ℕ → Line
  -- a command other than `submit`
  CommandLine : Instruction → Line
  RequestLine : Asked → Line
  SubmitLine : Line

-- the second step, if the first has no fault
infixl 10 ◌>>=◌
abbrev pub ◌>>=◌ : {A B : Type 0} → Result A ScriptFault → (A → Result B ScriptFault)
    → Result B ScriptFault
Ok x >>= f = f x
Err fault >>= f = Err fault

abbrev pub number_in : List ℕ → Result ℕ ScriptFault
number_in word = ok_or (decimal_of word) BadNumber

abbrev pub list_in : List ℕ → Result (List ℤ) ScriptFault
list_in word = ok_or (list_of word) BadEntry

-- the tags of the last word, if there is one
abbrev pub tags_in : Option (List ℕ) → Result (Option (List ℕ)) ScriptFault
tags_in None = Ok None
tags_in (Some word) = ok_or (option_map Some (tag_list_of word)) BadTag

abbrev pub file_name_in : List ℕ → Result (List ℕ) ScriptFault
file_name_in word = if is_name word then Ok word else Err BadName

-- the word after the required ones, if there is one
abbrev pub last_of : List (List ℕ) → Result (Option (List ℕ)) ScriptFault
last_of [] = Ok None
last_of (word ∷ []) = Ok (Some word)
last_of (word ∷ more ∷ others) = Err WordCount

-- the flag that links the next request, by the last word: `link` or `hardlink`
abbrev pub link_in : Option (List ℕ) → Result SqeFlags ScriptFault
link_in None = Ok no_flags
link_in (Some word) =
    if bytes_eq word (codes "link") then Ok io_link
    else if bytes_eq word (codes "hardlink") then Ok io_hardlink
    else Err BadWord

-- the flags of a request: a read names its file by a slot, and no other request does
abbrev pub flags_of : SqeFlags → Operation → SqeFlags
flags_of link (Opens name target) = link
flags_of link (Reads slot off len) = both_flags fixed_file link
flags_of link (Closes slot) = link
flags_of link (Updates off list) = link

abbrev pub request_line : SqeFlags → Operation → Line
request_line link operation =
    RequestLine (record { operation = operation; flags = flags_of link operation })

-- The words after the command. First their number is checked, and then each of them, from the left.

abbrev pub file_of : Bool → List (List ℕ) → Result Line ScriptFault
file_of true words = Err LateFile
file_of false (name ∷ hex ∷ []) = Ok (FileLine name hex)
file_of false words = Err WordCount

abbrev pub sparse_of : List (List ℕ) → Result Line ScriptFault
sparse_of (n ∷ []) = do
  n ← number_in n
  Ok (CommandLine (MakesSparse n))
sparse_of words = Err WordCount

abbrev pub register_of : List (List ℕ) → Result Line ScriptFault
register_of (list ∷ others) = do
  last ← last_of others
  list ← list_in list
  tags ← tags_in last
  Ok (CommandLine (RegistersList list tags))
register_of words = Err WordCount

abbrev pub unregister_of : List (List ℕ) → Result Line ScriptFault
unregister_of [] = Ok (CommandLine Unregisters)
unregister_of words = Err WordCount

abbrev pub range_line_of : List (List ℕ) → Result Line ScriptFault
range_line_of (off ∷ len ∷ []) = do
  off ← number_in off
  len ← number_in len
  Ok (CommandLine (SetsRange off len))
range_line_of words = Err WordCount

abbrev pub regupdate_of : List (List ℕ) → Result Line ScriptFault
regupdate_of (off ∷ list ∷ others) = do
  last ← last_of others
  off ← number_in off
  list ← list_in list
  tags ← tags_in last
  Ok (CommandLine (UpdatesRing off list tags))
regupdate_of words = Err WordCount

abbrev pub open_at : List ℕ → List (List ℕ) → Result Line ScriptFault
open_at name (slot ∷ others) = do
  last ← last_of others
  name ← file_name_in name
  slot ← number_in slot
  link ← link_in last
  Ok (request_line link (Opens name (Slot slot)))
open_at name words = Err WordCount

abbrev pub open_any : List ℕ → List (List ℕ) → Result Line ScriptFault
open_any name others = do
  last ← last_of others
  name ← file_name_in name
  link ← link_in last
  Ok (request_line link (Opens name Any))

abbrev pub open_of : List (List ℕ) → Result Line ScriptFault
open_of (name ∷ place ∷ others) =
    if bytes_eq place (codes "at") then open_at name others
    else if bytes_eq place (codes "any") then open_any name others
    else Err BadWord
open_of words = Err WordCount

abbrev pub read_of : List (List ℕ) → Result Line ScriptFault
read_of (slot ∷ off ∷ len ∷ others) = do
  last ← last_of others
  slot ← number_in slot
  off ← number_in off
  len ← number_in len
  link ← link_in last
  Ok (request_line link (Reads slot off len))
read_of words = Err WordCount

abbrev pub close_line_of : List (List ℕ) → Result Line ScriptFault
close_line_of (slot ∷ others) = do
  last ← last_of others
  slot ← number_in slot
  link ← link_in last
  Ok (request_line link (Closes slot))
close_line_of words = Err WordCount

abbrev pub update_of : List (List ℕ) → Result Line ScriptFault
update_of (off ∷ list ∷ others) = do
  last ← last_of others
  off ← number_in off
  list ← list_in list
  link ← link_in last
  Ok (request_line link (Updates off list))
update_of words = Err WordCount

abbrev pub submit_of : List (List ℕ) → Result Line ScriptFault
submit_of [] = Ok SubmitLine
submit_of words = Err WordCount

abbrev pub request_of : List ℕ → List (List ℕ) → Result Line ScriptFault
request_of command words =
    if bytes_eq command (codes "open") then open_of words
    else if bytes_eq command (codes "read") then read_of words
    else if bytes_eq command (codes "close") then close_line_of words
    else if bytes_eq command (codes "update") then update_of words
    else Err UnknownCommand

-- the meaning of a line's words, by the first of them; the first argument is whether an earlier
-- line isn't a `file` line
abbrev pub line_of : Bool → List (List ℕ) → Result Line ScriptFault
line_of late [] = Err UnknownCommand
line_of late (command ∷ words) =
    if bytes_eq command (codes "file") then file_of late words
    else if bytes_eq command (codes "sparse") then sparse_of words
    else if bytes_eq command (codes "register") then register_of words
    else if bytes_eq command (codes "unregister") then unregister_of words
    else if bytes_eq command (codes "range") then range_line_of words
    else if bytes_eq command (codes "regupdate") then regupdate_of words
    else if bytes_eq command (codes "submit") then submit_of words
    else request_of command words
