-- The label of a file: its tag, and the number of its mark. Its node has two words for it.
use Rattle.std.specs.Prelude.{◌≡◌, ◌+◌, ◌*◌, ◌^◌}
use Rattle.fx_lasting.specs.Words.{ℕ, Identity, Mark, Registered, Submitted, Placement, Written}
use Rattle.fx_lasting.specs.Words.{Nothing, Tag, Label}

-- the number of a mark, which a registration chooses; the marks of submissions have 0
abbrev pub number_of_mark : Mark → ℕ
number_of_mark (Registered k i) = k * 2 ^ 32 + i
number_of_mark (Submitted submission chain member entry) = 0

-- both words of a file's label
abbrev pub label_of : Identity → Written
label_of file = Label file.tag (number_of_mark file.mark)

-- a file that is about to be installed on a node whose word has lost `lost` takes, and these words
-- of whose label are written
abbrev pub as_written : ℕ → Written → Placement
as_written lost written = record { lost = lost; written = written }

-- the tag's word and the number's word have what is written
abbrev pub HasWritten : Written → ℕ → ℕ → Type 0
HasWritten Nothing tag number = Unit {0}
HasWritten (Tag t) tag number = tag ≡ t
HasWritten (Label t n) tag number = (tag ≡ t) × (number ≡ n)
