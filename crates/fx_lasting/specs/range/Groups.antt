-- The counts of the allocation range's full slots, by the views of a lasting table.
use Rattle.fx_lasting.specs.Words.{ℕ, List, Option, File, RangeCounts as CountsOf, Log, View}

-- the words of the range's groups count its full slots, and the questions are right
abbrev pub RangeCounts : (ℕ → Option File) → ℕ × ℕ → List View → List ℕ → Type 0
RangeCounts = CountsOf (λ (v : View). v.logs) (λ v. v.change) (λ (x : Log). x.number) (λ x. x.asked)
