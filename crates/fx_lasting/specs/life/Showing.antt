-- Shown histories, and views that learn from them.
use Rattle.std.specs.Prelude.{◌≡◌}
use Rattle.fx_lasting.specs.Words.{List, [], IsSeenBy, Event, View}
use Rattle.fx_lasting.specs.Passes.{first_log}
use Rattle.fx_lasting.specs.Runs.{Runs}
use Rattle.fx_lasting.specs.declared.life.shown.LastingSeen.{LastingSeen}
use Rattle.fx_lasting.specs.declared.table.LastingTable.{LastingTable}

-- the view `v` of a seat with one pass becomes `u`, by learning what the view `w` shows
pub record HasLearned (v w u : View) : Type 0 where
  pub runs : Runs (v, []) [] v.work v.glance v.change 0 (u, [])
  pub shown : IsSeenBy w.known (first_log u.logs).front

abbrev pub shown_of : LastingSeen → List Event
shown_of s = s.seen.view.known

abbrev pub IsSeenOf : LastingTable → LastingSeen → Type 0
IsSeenOf t s = s.seen.table_id ≡ t.table.shared.table_id
