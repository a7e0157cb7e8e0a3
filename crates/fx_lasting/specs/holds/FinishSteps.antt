-- The load by which a retirement finds that all takes and charges of its file were dropped: nobody
-- can reach the file then, so nothing is left to subtract.
use Rattle.std.specs.Prelude.{◌≡◌, ◌≢◌, ◌+◌}
use Rattle.fx_lasting.specs.Words.{ℕ, [], File, Round}
use Rattle.fx_lasting.specs.Fields.{retirement_amount}
use Rattle.fx_lasting.specs.Passes.{Sat}
use Rattle.fx_lasting.specs.Effects.{At, Goes, TakesOut}
use Rattle.fx_lasting.specs.declared.view.Work.TheVariants.{Retiring}

-- Finish, of the node's word: if all takes and charges were dropped, the file is closed
pub record Finishes (st : At) (m : Sat) (found : ℕ) (m' : Sat) : Type 0 where
  pub waits : (f : File) (node takes : ℕ) (round : Round) (charges : ℕ)
      → m.0.work ≡ Retiring f node takes round charges
      → found ≢ retirement_amount takes charges + 1 → Goes m [] m.0.work m.0.glance m'
  pub closes : (f : File) (node takes : ℕ) (round : Round) (charges : ℕ)
      → m.0.work ≡ Retiring f node takes round charges
      → found ≡ retirement_amount takes charges + 1 → TakesOut m [] f node m'
