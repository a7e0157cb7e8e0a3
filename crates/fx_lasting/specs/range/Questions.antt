-- A pass that asks whether the allocation range is full.
use Rattle.std.specs.Prelude.{◌+◌, ◌≤◌, if◌then◌else◌, ℕ, Bool, true, false, []}
use Rattle.fx_lasting.specs.Words.{◌▷◌, Adds, no_use, LastingPass, Survey, Covered}
use Rattle.fx_plain.specs.declared.event.Action.TheVariants.{Full}
use Rattle.fx_lasting.specs.Passes.{Sat}
use Rattle.fx_lasting.specs.Runs.{Runs}
use Rattle.fx_lasting.specs.Tables.{IsPassOfTable, opening_of_table, view_of, steps_taken}
use Rattle.fx_lasting.specs.Tables.{MeetsMore}
use Rattle.fx_lasting.specs.Effects.{as_asked}
use Rattle.fx_lasting.specs.declared.table.LastingTable.{LastingTable}

-- some steps in a row, after which the pass has asked so; they leave all else as it was
abbrev pub AsksSo : Survey → ℕ → Sat → Sat → Type 0
AsksSo asked most m m' = Runs (as_asked asked m) [] m.0.work m.0.glance m.0.change most m'

-- a pass that found every slot full, after it had visited this many groups; or it didn't
abbrev pub DecidesIf : ℕ → ℕ → Sat → Bool → Sat → Type 0
DecidesIf groups most m true m' =
    Runs (as_asked (Covered groups) m) ([] ▷ Full) m.0.work m.0.glance m.0.change most m'
DecidesIf groups most m false m' = (asked : Survey) × AsksSo asked most m m'

-- a pass that visited the next group
abbrev pub VisitsGroup : ℕ → Sat → Bool → Sat → Type 0
VisitsGroup group m true m' = AsksSo (Covered (group + 1)) 1 m m'
VisitsGroup group m false m' = AsksSo (Covered group) 1 m m'

-- the pass is still one of the table and between calls: it found every slot full, or has
-- done nothing
pub record HasAsked (t : LastingTable) (most : ℕ) (p : LastingPass) (sure : Bool)
    (p' : LastingPass) : Type 0 where
  pub fits : IsPassOfTable t p'
  pub adds : Adds (opening_of_table t) (view_of p) (if sure then [] ▷ Full else [])
      (view_of p).doing no_use (view_of p')
  pub steps : steps_taken p' ≤ steps_taken p + most
  pub met : MeetsMore p p'
