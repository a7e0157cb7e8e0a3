-- Shown histories, and views that learn from them.
use Rattle.std.specs.Prelude.{◌≡◌, ◌∷◌}
use Rattle.fx_baton.specs.Words.{List, [], IsLegal, IsSeenBy, part_of_pass, Event, Log, View}
use Rattle.fx_plain.specs.State.{State}
use Rattle.fx_baton.specs.declared.shown.BatonSeen.{BatonSeen}
use Rattle.fx_baton.specs.declared.table.BatonTable.{BatonTable}
use Rattle.fx_baton.specs.Rule.{begin_of}

-- the view `v` of a seat with one pass becomes `u`, by learning what the view `w` shows
pub record HasLearned (v w u : View) : Type 0 where
  pub log : Log
  pub one : v.logs ≡ log ∷ []
  pub history : List Event
  pub view : u ≡ record v { logs = record log { front = history } ∷ [] }
  pub own : IsSeenBy log.front history
  pub shown : IsSeenBy w.known history
  pub part : part_of_pass log.number history ≡ log.own
  pub end : State
  pub legal : IsLegal (begin_of v.start) history end

abbrev pub shown_of : BatonSeen → List Event
shown_of s = s.seen.view.known

abbrev pub IsSeenOf : BatonTable → BatonSeen → Type 0
IsSeenOf t s = s.seen.table_id ≡ t.table.shared.table_id
