-- Some steps of a pass in a row.
use Rattle.fx_lasting.specs.Words.{ℕ, List, Action, Change, Glance, Work}
use Rattle.fx_lasting.specs.Passes.{Sat}
use Rattle.fx_lasting.specs.Effects.{MakesSteps}

-- at most `most` steps, or none
abbrev pub Runs : Sat → List Action → Work → Glance → Change → (most : ℕ) → Sat → Type 0
Runs m actions w g c most m' = MakesSteps m actions w g c 0 most m'
