-- Scripts: which bytes are a script, what it says, and on which line its first fault is (this
-- project's own).
use Rattle.std.specs.Prelude.{◌≡◌, ℕ, ◌+◌, ◌==◌, nat_lt, Bool, ◌&&◌, not, List, [], ◌∷◌, ◌++◌}
use Rattle.std.specs.Prelude.{length, All, Option, Some, None, option_and_then, Result, Ok, Err}
use Rattle.std.specs.Prelude.{ok_or, if◌then◌else◌}
use Rattle.hex.specs.Hex.{IsBytes}
use Rattle.fx_base.specs.Catalogue.{FileEntry, IsCatalogue}
use Rattle.fx_base.specs.AddFault.{add_fault_of}
use Rattle.fx_base.specs.declared.catalogue.AddFault.{AddFault}
use Rattle.fx_base.specs.declared.catalogue.AddFault.TheVariants.{TooMany, EmptyName, BadName}
use Rattle.fx_base.specs.declared.catalogue.AddFault.TheVariants.{SameName, TooLong, NoMemory}
use Rattle.fx_chain.specs.Operation.{Asked}
use Rattle.fx_language.specs.declared.fault.ScriptFault.{ScriptFault}
use Rattle.fx_language.specs.declared.fault.ScriptFault.TheVariants.{LongScript, LongLine, NotText}
use Rattle.fx_language.specs.declared.fault.ScriptFault.TheVariants.{BadHex, CatalogueFull}
use Rattle.fx_language.specs.declared.fault.ScriptFault.TheVariants.{LongFile, Unsubmitted}
use Rattle.fx_language.specs.declared.fault.ScriptFault.TheVariants as kind
use Rattle.fx_language.specs.declared.limits.TheConstants.{LONGEST_SCRIPT, LONGEST_LINE}
use Rattle.fx_language.specs.Instruction.{Instruction, SubmitsAll}
use Rattle.fx_language.specs.Line.{Line, FileLine, CommandLine, RequestLine, SubmitLine, line_of}
use Rattle.fx_language.specs.Line.{◌>>=◌}
use Rattle.fx_language.specs.Lines.{lines, words, is_printable, is_skipped}
use Rattle.fx_language.specs.Words.{hex_of}

-- the meaning of a script: the files that can be opened, and the commands
pub record Meaning : Type 0 where
  pub catalogue : List FileEntry
  pub commands : List Instruction

-- a line, from 1, and its fault; a script that is too long has its fault on line 0
pub record LineFault : Type 0 where
  pub line : ℕ
  pub kind : ScriptFault

-- the meaning of the lines so far: the requests that wait for their submission, and the line of the
-- first of them
pub record Progress : Type 0 where
  pub catalogue : List FileEntry
  pub commands : List Instruction
  pub waiting : List Asked
  pub first_waiting : ℕ

abbrev pub nothing : Progress
nothing = record { catalogue = []; commands = []; waiting = []; first_waiting = 0 }

-- some line so far isn't a `file` line
abbrev pub is_late : Progress → Bool
is_late p = not (length p.commands == 0 && length p.waiting == 0)

-- the fault of a line whose file isn't added; an allocation failure isn't a fault
abbrev pub line_fault_of : AddFault → Option ScriptFault
line_fault_of TooMany = Some CatalogueFull
line_fault_of EmptyName = Some kind.BadName
line_fault_of BadName = Some kind.BadName
line_fault_of SameName = Some kind.SameName
line_fault_of TooLong = Some LongFile
line_fault_of NoMemory = None

abbrev pub unless : {A : Type 0} → Option ScriptFault → A → Result A ScriptFault
unless None x = Ok x
unless (Some fault) x = Err fault

-- with one more file, if it may be added
abbrev pub with_named_file : Progress → List ℕ → List ℕ → Result Progress ScriptFault
with_named_file p name bytes =
    unless (option_and_then line_fault_of (add_fault_of p.catalogue name bytes))
    (record p { catalogue = p.catalogue ++ record { name = name; bytes = bytes } ∷ [] })

-- with one more `file` line
abbrev pub after_file : Progress → List ℕ → List ℕ → Result Progress ScriptFault
after_file p name hex = do
  bytes ← ok_or (hex_of hex) BadHex
  with_named_file p name bytes

-- with one more command
abbrev pub with_command : Progress → Instruction → Progress
with_command p command = record p { commands = p.commands ++ command ∷ [] }

-- with one more line, the n-th
abbrev pub after_line : ℕ → Progress → Line → Result Progress ScriptFault
after_line n p (FileLine name hex) = after_file p name hex
after_line n p (CommandLine instruction) = Ok (with_command p instruction)
after_line n p (RequestLine asked) =
    Ok (record p {
      waiting = p.waiting ++ asked ∷ [];
      first_waiting = if length p.waiting == 0 then n else p.first_waiting;
    })
after_line n p SubmitLine = Ok (record (with_command p (SubmitsAll p.waiting)) { waiting = [] })

-- with the bytes of one more line, the n-th
abbrev pub after_text : ℕ → Progress → List ℕ → Result Progress ScriptFault
after_text n p text =
    if nat_lt LONGEST_LINE (length text) then Err LongLine
    else if not (is_printable text) then Err NotText
    else if is_skipped text then Ok p
    else line_of (is_late p) (words text) >>= after_line n p

-- at the end no request waits
abbrev pub at_end : Progress → Result Meaning LineFault
at_end p =
    if length p.waiting == 0 then Ok (record { catalogue = p.catalogue; commands = p.commands })
    else Err (record { line = p.first_waiting; kind = Unsubmitted })

-- a fault on the `n`-th line, or else the continuation
abbrev pub on_line : {A B : Type 0} → ℕ → Result A ScriptFault → (A → Result B LineFault)
    → Result B LineFault
on_line n (Ok x) next = next x
on_line n (Err kind) next = Err (record { line = n; kind = kind })

-- the lines from the `n`-th on, up to the first fault
abbrev pub after_texts : ℕ → Progress → List (List ℕ) → Result Meaning LineFault
after_texts n p [] = at_end p
after_texts n p (text ∷ texts) =
    on_line n (after_text n p text) (λ next. after_texts (n + 1) next texts)

-- the meaning of the bytes as a script, or their fault
abbrev pub reading_of : List ℕ → Result Meaning LineFault
reading_of bytes =
    if nat_lt LONGEST_SCRIPT (length bytes) then Err (record { line = 0; kind = LongScript })
    else after_texts 1 nothing (lines bytes)

-- the bytes are a script with this meaning
abbrev pub IsScript : List ℕ → Meaning → Type 0
IsScript bytes meaning = reading_of bytes ≡ Ok meaning

-- the bytes have this fault on this line
abbrev pub HasFault : List ℕ → ℕ → ScriptFault → Type 0
HasFault bytes line kind = reading_of bytes ≡ Err (record { line = line; kind = kind })

-- the meaning of some script
abbrev pub IsRead : Meaning → Type 0
IsRead meaning = (bytes : List ℕ) × IsScript bytes meaning

-- the files of a script that was read: a catalogue that consists of bytes
pub record AreFiles (files : List FileEntry) : Type 0 where
  pub catalogue : IsCatalogue files
  pub bytes : All (λ file. IsBytes file.bytes) files
