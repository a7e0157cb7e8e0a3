-- Laws of printed lines.
use Rattle.std.specs.Prelude.{◌≡◌, ◌++◌}
use Rattle.check_lines.specs.Words.{ℕ, ℤ, List, length, IsTrue, Asked, RingContents, IsOneHistory}
use Rattle.check_lines.specs.Words.{Reported, Instruction, PrintsAll, result_line}
use Rattle.fx_base.specs.Name.{is_name}
use Rattle.check_lines.specs.Lines.{HasNoCloses, IsResultInRange, is_without}

-- a text begins with at most one line of a word and a result
abbrev pub BeginsWithOneResult : Type 0
BeginsWithOneResult =
    (word : List ℕ) (res other : ℤ) (rest more : List ℕ)
    → IsResultInRange res → IsResultInRange other
    → result_line word res ++ rest ≡ result_line word other ++ more
    → (res ≡ other) × (rest ≡ more)

-- the text of commands never begins with a line of a closed file or of a tag
abbrev pub PlaysBeginWithNoClose : Type 0
PlaysBeginWithNoClose =
    (ring : RingContents) (commands : List Instruction) (text : List ℕ)
    → PrintsAll ring commands text → HasNoCloses text

-- the report of a submission has a completion for each of its requests
abbrev pub ReportsHaveEachRequest : Type 0
ReportsHaveEachRequest =
    (old : RingContents) (asked : List Asked) (report : Reported) (new : RingContents)
    → IsOneHistory old asked report new → length report.completions ≡ length asked

-- the name of a catalogue entry has no line end
abbrev pub NamesHaveNoLineEnd : Type 0
NamesHaveNoLineEnd = (name : List ℕ) → IsTrue (is_name name) → IsTrue (is_without 10 name)
