-- The texts of a script in which memory was found, and what its requests may answer in them (this
-- project's own).
use Rattle.std.specs.Prelude.{◌≡◌, ◌∷◌, ◌++◌, ℕ, List, [], codes, Option, Some, None, Contains}
use Rattle.check_texts.specs.Words.{Completed, negated, Asked, Place, RingContents, ring_of}
use Rattle.check_texts.specs.Words.{Reported, MayReport, Instruction, MakesSparse, RegistersList}
use Rattle.check_texts.specs.Words.{Unregisters, SetsRange, UpdatesRing, SubmitsAll, Meaning}
use Rattle.check_texts.specs.Words.{IsNewRing, IsText, Prints, PrintsEnd, report_text}
use Rattle.std.specs.Option.{option_to_list}
use Rattle.fx_base.specs.declared.errno.Errno.TheVariants.{ENOMEM}
use Rattle.fx_print.specs.Text.{result_line}

-- a call between submissions found memory: its line isn't its word and -12
abbrev pub HasFound : List ℕ → List ℕ → Type 0
HasFound word line = line ≡ result_line word (negated ENOMEM) → ⊥

-- an accepted submission printed this report, and no completion of it is -12
pub record IsReportFound (old : RingContents) (asked : List Asked) (new : RingContents)
    (line : List ℕ) (report : Reported) : Type 0 where
  pub may : MayReport old asked report new
  pub printed : line ≡ report_text old.catalogue report

-- the command that led from one ring to the other and printed this found memory; there is a report
-- where it is an accepted submission
abbrev pub FoundMemory :
    RingContents → Instruction → RingContents → List ℕ → Option Reported → Type 0
FoundMemory old (MakesSparse n) new line own = (own ≡ None) × HasFound (codes "sparse") line
FoundMemory old (RegistersList list tags) new line own =
    (own ≡ None) × HasFound (codes "register") line
FoundMemory old Unregisters new line own = (own ≡ None) × HasFound (codes "unregister") line
FoundMemory old (SetsRange off len) new line own = own ≡ None
FoundMemory old (UpdatesRing off list tags) new line own =
    (own ≡ None) × HasFound (codes "regupdate") line
FoundMemory old (SubmitsAll asked) new line None = new.submissions ≡ old.submissions
FoundMemory old (SubmitsAll asked) new line (Some report) = IsReportFound old asked new line report

-- the commands may print this, one after another, and then the end of the script, if no allocation
-- fails; and these are the reports of the accepted submissions, in their order
abbrev pub PrintsAllFound : RingContents → List Instruction → List ℕ → List Reported → Type 0
PrintsAllFound ring [] text reports = PrintsEnd (ring_of ring) text × (reports ≡ [])
PrintsAllFound ring (command ∷ commands) text reports =
    (next : RingContents) × (line : List ℕ) × (others : List ℕ)
    × (own : Option Reported) × (later : List Reported)
    × Prints ring command next line × FoundMemory ring command next line own
    × (text ≡ line ++ others) × (reports ≡ option_to_list own ++ later)
    × PrintsAllFound next commands others later

-- one play of the script, in which memory is found, prints this and has these reports
abbrev pub IsPlayFound : Meaning → List ℕ → List Reported → Type 0
IsPlayFound script text reports =
    (ring : RingContents) × IsNewRing script ring
    × PrintsAllFound ring script.commands text reports

-- the script may print this if no allocation fails
abbrev pub IsTextFound : Meaning → List ℕ → Type 0
IsTextFound script text = (reports : List Reported) × IsPlayFound script text reports

abbrev pub EachFoundTextIsAText : Type 0
EachFoundTextIsAText =
    (script : Meaning) (text : List ℕ) → IsTextFound script text → IsText script text

-- in some play of the script in which memory is found, the request at the place answers this
pub record MayAnswerIn (script : Meaning) (place : Place) (c : Completed) : Type 0 where
  pub text : List ℕ
  pub reports : List Reported
  pub play : IsPlayFound script text reports
  -- the report of its submission has the completion, at its place
  pub report : Reported
  pub among : Contains reports report
  pub submission : report.submission ≡ place.submission
  pub inside : Contains report.completions c
  pub there : c.place ≡ place
