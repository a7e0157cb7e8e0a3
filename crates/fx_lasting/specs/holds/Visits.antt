-- The round of a retirement through the hold words of the other passes.
use Rattle.std.specs.Prelude.{◌≡◌, ◌+◌, ◌-◌, ◌*◌, ◌/◌, ◌<◌, ◌≤◌}
use Rattle.fx_lasting.specs.Words.{ℕ, false, [], File, Round}
use Rattle.fx_lasting.specs.Ends.{Does}
use Rattle.fx_lasting.specs.Laws.{IsPassed}
use Rattle.fx_lasting.specs.Passes.{Sat}
use Rattle.fx_lasting.specs.declared.view.Work.TheVariants.{Retiring}

-- a round that has visited the passes before `next`, and loaded these words of the list
abbrev pub round_to : ℕ → ℕ → ℕ → Round
round_to next words last = record { next = next; words = words; last = last; guarded = false }

-- The pass retires the file of the node, which had these takes. From `first` on it has visited each
-- pass before `pass` that it has to, and made this many charges
pub record HasVisited (passes number node : ℕ) (f : File) (takes first words last pass charges : ℕ)
    (m m' : Sat) : Type 0 where
  pub next : ℕ
  pub near : next ≤ pass
  pub inside : next ≤ passes + 1
  pub passed : (p : ℕ) → next ≤ p → p < pass → IsPassed number (round_to next words last) p
  -- in at most two steps for each, and one for each word of the list
  pub most : ℕ
  pub few : most + 2 * first ≤ 2 * next + words
  pub fewer : first ≤ number → number < next → most + 2 * first + 2 ≤ 2 * next + words
  pub does : Does m [] (Retiring f node takes (round_to next words last) charges) most m'

-- all passes that it has to visit were visited, with this many charges
abbrev pub HasCharged : ℕ → ℕ → File → ℕ → ℕ → Sat → ℕ → Sat → Type 0
HasCharged passes number f node takes m charges m' = (round : Round) × (round.guarded ≡ false)
    × ((p : ℕ) → round.next ≤ p → p ≤ passes → IsPassed number round p)
    × Does m [] (Retiring f node takes round charges) (2 * (passes - 1) + (passes + 63) / 64) m'
