-- The draw word: how many chains were drawn, and how many passes got `None`.
use Rattle.std.specs.Prelude.{◌≡◌, ◌+◌, ◌<◌, ◌≤◌}
use Rattle.fx_counted.specs.Words.{ℕ, List, sum_by, numbers_up_to, once, View}
use Rattle.fx_counted.specs.Passes.{drawn_of, ended_of}
use Rattle.fx_counted.specs.Phases.{Phase, unborn}

-- the draw word counts the chains that were drawn and the passes that got `None`
pub record DrawsCount (chains numbers : ℕ) (phase : ℕ → Phase)
    (views : List View) (word : ℕ) : Type 0 where
  -- the chains from 1 to `given` were drawn, each by one pass
  pub given : ℕ
  pub few : given ≤ chains
  pub each : (c : ℕ) → sum_by (drawn_of c) views ≡ once given c
  pub counts : word ≡ given + sum_by ended_of views
  -- a pass got `None` only after all chains were drawn
  pub all : 0 < sum_by ended_of views → given ≡ chains
  -- no pass uses the numbers of the other chains
  pub unused : (n : ℕ) → numbers_up_to numbers given ≤ n → n < numbers_up_to numbers chains
      → phase n ≡ unborn
