-- Reports that lines describe.
use Rattle.std.specs.Prelude.{◌≡◌, ◌⊎◌, ◌<◌, ◌∷◌}
use Rattle.check_judge.specs.Words.{ℕ, pos, List, length, All, Result, Ok, Err, slice_get, Some}
use Rattle.check_judge.specs.Words.{FileEntry, IsCatalogue, IsInOrderOfMark, Closed, Completed}
use Rattle.check_judge.specs.Words.{all_completed, Asked, InstallsAt, table_of_slots, lines_of}
use Rattle.check_judge.specs.Words.{Reported}
use Rattle.fx_base.specs.declared.mark.Mark.{Mark}
use Rattle.fx_base.specs.declared.mark.Mark.TheVariants.{Submitted}
use Rattle.fx_order.specs.declared.slots.Slots.{Slots}
use Rattle.check_judge.specs.declared.recorded.Recorded.{Recorded}
use Rattle.check_lines.specs.LinesView.{lines_in}
use Rattle.check_lines.specs.declared.report_lines.ReportLines.{ReportLines}
use Rattle.check_judge.specs.declared.judgement.Fault.{Fault}

-- a report of these completions and closes has these lines, in every submission
abbrev pub HasLines : List FileEntry → ReportLines → Recorded → Type 0
HasLines catalogue lines recorded = (number room : ℕ) → lines_of catalogue (record {
  submission = number;
  completions = all_completed recorded.completions.items;
  closes = record { files = recorded.closes.items; room = room };
}) ≡ lines_in lines

-- the file is at a slot
abbrev pub IsFileAtSlot : Slots → Closed → Type 0
IsFileAtSlot slots file = (slot : ℕ) × ((table_of_slots slots).at slot ≡ Some file)

-- no file at a slot has the mark
abbrev pub HasNone : Slots → Mark → Type 0
HasNone slots mark =
    (slot : ℕ) (file : Closed) → (table_of_slots slots).at slot ≡ Some file → file.mark ≡ mark → ⊥

-- a submission may close the file: one at a slot, or one without a tag whose mark none there has
pub record MayBeClosed (catalogue : List FileEntry) (slots : Slots) (file : Closed) : Type 0 where
  pub inside : file.entry < length catalogue
  pub from : IsFileAtSlot slots file ⊎ ((file.tag ≡ 0) × HasNone slots file.mark)

-- no two files at slots have one mark, and no two of the catalogue one name
pub record AreApart (catalogue : List FileEntry) (slots : Slots) : Type 0 where
  pub names : IsCatalogue catalogue
  pub marks : (file other : Closed) → IsFileAtSlot slots file → IsFileAtSlot slots other
      → file.mark ≡ other.mark → file ≡ other

-- no two files of a list have one mark
abbrev pub HasDistinctMarks : List Closed → Type 0
HasDistinctMarks files = (i j : ℕ) (one other : Closed) → slice_get files i ≡ Some one
    → slice_get files j ≡ Some other → one.mark ≡ other.mark → i ≡ j

-- files in order of mark, no two with one mark, each of which a submission may close
pub record MayCloseAll (catalogue : List FileEntry) (slots : Slots) (files : List Closed) :
    Type 0 where
  pub each : All (MayBeClosed catalogue slots) files
  pub in_order : IsInOrderOfMark files
  pub distinct : HasDistinctMarks files

-- these files are read, and no fault
abbrev pub Yields : {X E : Type 0} → Result X E → (X → List Closed) → List Closed → Type 0
Yields (Ok read) files_of files = files_of read ≡ files
Yields (Err fault) files_of files = ⊥

-- the request, which completed so, installed a file with the mark
pub record Installed (asked : Asked) (c : Completed) (mark : Mark) : Type 0 where
  pub entry : ℕ
  pub is_mark : mark ≡ Submitted c.place.submission c.place.chain c.place.member entry
  pub listed : InstallsAt asked.operation entry
  pub res : ℕ
  pub accepted : c.res ≡ pos res

-- one of the requests did, the first by the first completion, and so on
abbrev pub OneInstalled : List Asked → List Completed → Mark → Type 0
OneInstalled (asked ∷ requests) (c ∷ completions) mark =
    Installed asked c mark ⊎ OneInstalled requests completions mark
OneInstalled _ _ mark = ⊥

-- each file was at a slot, or a request installed it
abbrev pub AreFrom : Slots → List Asked → List Completed → List Closed → Type 0
AreFrom slots requests completions files =
    All (λ file. IsFileAtSlot slots file ⊎ OneInstalled requests completions file.mark) files

-- each report with these lines, of files that a submission may close, each of which was at a slot
-- or is one that a request installed, has the files that are read
abbrev pub YieldsKnown :
    List FileEntry → Slots → List Asked → ReportLines → Result Recorded Fault → Type 0
YieldsKnown catalogue slots requests lines recorded =
    (report : Reported) → MayCloseAll catalogue slots report.closes.files
    → AreFrom slots requests report.completions report.closes.files
    → lines_of catalogue report ≡ lines_in lines
    → Yields recorded (λ read. read.closes.items) report.closes.files
