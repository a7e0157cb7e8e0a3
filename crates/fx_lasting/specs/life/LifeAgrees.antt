-- The rule of a table's life: its size, its history and the passes that made it.
use Rattle.std.specs.Prelude.{◌≡◌, ◌+◌, ◌≤◌}
use Rattle.fx_lasting.specs.Words.{List, length, Event, MOST_SLOTS, Start}
use Rattle.table_seats.specs.Together.{Together}
use Rattle.fx_lasting.specs.life.Cuts.{seats}
use Rattle.fx_lasting.specs.life.Layout.{words_for}
use Rattle.fx_lasting.specs.Passes.{Shared, slots_of, range_at_start, nodes_of}

-- how large everything is
pub record HasShape (k : Start) (s : Shared) : Type 0 where
  pub slots : slots_of k ≤ MOST_SLOTS
  pub range : (range_at_start k).0 + (range_at_start k).1 ≤ slots_of k
  pub passes : k.passes ≤ 1024
  pub nodes : nodes_of k ≤ 16777214
  pub words : length s.words ≡ words_for (slots_of k) k.passes (nodes_of k)
  pub homes : length s.homes ≡ nodes_of k

-- the life of the table: one legal history, and the passes that made it
abbrev pub LifeAgrees : Start → Shared → List Event → Type 0
LifeAgrees k s h = Together seats k s.views h
