-- Several steps of a pass in a row.
use Rattle.std.specs.Prelude.{◌≡◌, ◌+◌, ◌≤◌, ◌∷◌}
use Rattle.fx_counted.specs.Words.{ℕ, List, [], Action, Use, Adds, Change, Log, Work}
use Rattle.fx_counted.specs.Passes.{Sat, opening_of, pass_of, steps_of, doing_in}
use Rattle.fx_counted.specs.Effects.{IsInside}

-- At most `most` steps of a seat with one pass: it took these actions, used these numbers and
-- look-ups, and now has this work
pub record Goes (m : Sat) (actions : List Action) (used : Use) (w : Work) (c : Change)
    (most : ℕ) (m' : Sat) : Type 0 where
  pub one : (x : Log) × (m'.0.logs ≡ x ∷ [])
  pub adds : Adds (opening_of m.0.start) (pass_of m.0) actions (doing_in w) used (pass_of m'.0)
  pub work : m'.0.work ≡ w
  pub inside : IsInside m.0.start w
  pub change : m'.0.change ≡ c
  pub start : m'.0.start ≡ m.0.start
  pub steps : steps_of m'.0 ≤ steps_of m.0 + most
