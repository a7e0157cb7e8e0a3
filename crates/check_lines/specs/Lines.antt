-- The lines of a submission's report.
use Rattle.std.specs.Prelude.{◌≡◌, ◌<◌, ◌^◌, ◌==◌, ◌++◌}
use Rattle.check_lines.specs.Words.{ℕ, Bool, not, ℤ, pos, negsuc, List, length, map, codes, All}
use Rattle.check_lines.specs.Words.{IsTrue, Option, StartsWith, flat_map, list_all, IsBytes}
use Rattle.check_lines.specs.Words.{FileEntry, Mark, Closed, Completed, Place, Reported}
use Rattle.check_lines.specs.Words.{closed_line, completion_lines, name_of, tag_line}
use Rattle.fx_base.specs.Tags.{tag_completion, tags_of}
use Rattle.fx_base.specs.declared.mark.Mark.TheVariants.{Registered, Submitted}
use Rattle.check_lines.specs.Reads.{ReadsPrinted}

-- the content of a closed file's line
pub record NamedClose : Type 0 where
  pub mark : Mark
  pub name : List ℕ

-- the content of a closed file's line, for the file
abbrev pub named_close : List FileEntry → Closed → NamedClose
named_close catalogue file = record { mark = file.mark; name = name_of catalogue file.entry }

abbrev pub named_closes : List FileEntry → List Closed → List NamedClose
named_closes catalogue files = map (named_close catalogue) files

-- the content of a report's lines
pub record Lines : Type 0 where
  pub completions : List Completed
  pub closed : List NamedClose
  pub tags : List ℕ

-- `closed MARK NAME`
abbrev pub named_line : NamedClose → List ℕ
named_line close = closed_line close.mark close.name

-- `tag T`
abbrev pub line_of_tag : ℕ → List ℕ
line_of_tag tag = tag_line (tag_completion tag)

-- the lines one after another: those of the completions, of the closed files, and of the tags
abbrev pub lines_text : Lines → List ℕ
lines_text lines =
    completion_lines lines.completions
    ++ (flat_map named_line lines.closed ++ flat_map line_of_tag lines.tags)

-- the lines of a report
abbrev pub lines_of : List FileEntry → Reported → Lines
lines_of catalogue report = record {
  completions = report.completions;
  closed = named_closes catalogue report.closes.files;
  tags = map (λ completion. completion.user_data) (tags_of report.closes.files);
}

-- the numbers of a place are below 2^32
pub record IsPlaceInRange (place : Place) : Type 0 where
  pub submission : place.submission < 2 ^ 32
  pub chain : place.chain < 2 ^ 32
  pub member : place.member < 2 ^ 32

-- the numbers of a mark are below 2^32
abbrev pub IsMarkInRange : Mark → Type 0
IsMarkInRange (Registered k i) = (k < 2 ^ 32) × (i < 2 ^ 32)
IsMarkInRange (Submitted s c m e) =
    IsPlaceInRange (record { submission = s; chain = c; member = m }) × (e < 2 ^ 32)

-- a result is at least -2^31, and below 2^31
abbrev pub IsResultInRange : ℤ → Type 0
IsResultInRange (pos n) = n < 2 ^ 31
IsResultInRange (negsuc n) = n < 2 ^ 31

-- the numbers of a completion are within the ranges of its type
pub record IsCompletionInRange (c : Completed) : Type 0 where
  pub place : IsPlaceInRange c.place
  pub res : IsResultInRange c.res
  pub got : IsBytes c.got

-- the byte is nowhere in the text
abbrev pub is_without : ℕ → List ℕ → Bool
is_without byte text = list_all (λ b. not (b == byte)) text

-- the numbers of a mark are within the ranges of its type, and the name has no line end
pub record IsCloseInRange (close : NamedClose) : Type 0 where
  pub mark : IsMarkInRange close.mark
  pub name : IsTrue (is_without 10 close.name)

-- the numbers of the lines are within the ranges of their types, and no name has a line end
pub record AreLinesInRange (lines : Lines) : Type 0 where
  pub completions : All IsCompletionInRange lines.completions
  pub closed : All IsCloseInRange lines.closed
  pub tags : All (λ tag. tag < 2 ^ 64) lines.tags

-- a text begins with no line of a closed file or of a tag
pub record HasNoCloses (text : List ℕ) : Type 0 where
  pub no_closed : ¬ (StartsWith text (codes "closed "))
  pub no_tag : ¬ (StartsWith text (codes "tag "))

-- the lines of a report with `count` completions, and the text after all of its lines
pub record IsReportBefore (count : ℕ) (front : Lines × List ℕ) : Type 0 where
  pub each : length front.0.completions ≡ count
  pub in_range : AreLinesInRange front.0
  pub behind : HasNoCloses front.1

-- the lines of the report that a text begins with, and the text after them
abbrev pub ReadsReport : ℕ → List ℕ → Option (Lines × List ℕ) → Type 0
ReadsReport count text found =
    ReadsPrinted (λ front. lines_text front.0 ++ front.1) (IsReportBefore count) text found
