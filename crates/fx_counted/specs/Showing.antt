-- Shown histories, and views that learn from them.
use Rattle.std.specs.Prelude.{◌≡◌}
use Rattle.fx_counted.specs.Words.{List, [], IsSeenBy, Event, no_use, View}
use Rattle.fx_counted.specs.Passes.{first_log}
use Rattle.fx_counted.specs.Goes.{Goes}
use Rattle.fx_counted.specs.declared.shown.CountedSeen.{CountedSeen}
use Rattle.fx_counted.specs.declared.table.CountedTable.{CountedTable}

-- the view `v` of a seat with one pass becomes `u`, by learning what the view `w` shows
pub record HasLearned (v w u : View) : Type 0 where
  pub goes : Goes (v, []) [] no_use v.work v.change 0 (u, [])
  pub shown : IsSeenBy w.known (first_log u.logs).front

abbrev pub shown_of : CountedSeen → List Event
shown_of s = s.seen.view.known

abbrev pub IsSeenOf : CountedTable → CountedSeen → Type 0
IsSeenOf t s = s.seen.table_id ≡ t.table.shared.table_id
