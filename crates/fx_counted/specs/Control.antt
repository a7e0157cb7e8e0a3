-- The control word: how many slots of the allocation range are full, and how many passes are in a
-- change.
use Rattle.std.specs.Prelude.{◌≡◌, ◌+◌, ◌/◌, ◌%◌}
use Rattle.fx_counted.specs.Words.{ℕ, List, Option, sum_by, File, full_in, one_change, bias, Change}
use Rattle.fx_counted.specs.Words.{Outside, More, Less, View}

-- 1 between the beginning and the end of a change, otherwise 0
abbrev pub in_change : Change → ℕ
in_change Outside = 0
in_change _ = 1

-- the full slots that a pass has added and not yet reported
abbrev pub added : Change → ℕ
added More = 1
added _ = 0

-- the full slots that a pass has removed and not yet reported
abbrev pub removed_by : Change → ℕ
removed_by Less = 1
removed_by _ = 0

-- the changes of a view's pass
abbrev pub changes_of : View → ℕ
changes_of v = in_change v.change

-- the full slots that a view's pass has added
abbrev pub added_of : View → ℕ
added_of v = added v.change

-- the full slots that a view's pass has removed
abbrev pub removed_of : View → ℕ
removed_of v = removed_by v.change

-- The upper half counts the passes in a change. The lower half minus the bias, with the differences
-- that these passes have yet to report, is the number of full slots of the range
pub record ControlCounts (at : ℕ → Option File) (range : ℕ × ℕ)
    (views : List View) (word : ℕ) : Type 0 where
  pub upper : word / one_change ≡ sum_by changes_of views
  pub lower : word % one_change + sum_by added_of views
      ≡ bias + full_in at range.0 range.1 + sum_by removed_of views
