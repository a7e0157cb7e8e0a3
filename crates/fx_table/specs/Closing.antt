-- The contract of a close: the events of all passes are one legal history.
use Rattle.std.specs.Prelude.{◌≡◌, ℕ, ◌<◌, ◌≤◌, ◌==◌, true, List, Contains, count_by, sum_by}
use Rattle.fx_plain.specs.declared.event.Event.{Event}
use Rattle.fx_plain.specs.State.{IsSettled}
use Rattle.fx_plain.specs.Contents.{Contents, state_of}
use Rattle.fx_plain.specs.History.{IsLegal, IsSeenBy, part_of_pass}
use Rattle.fx_table.specs.Opening.{Opening, start_of, state_at, HasSameFiles}
use Rattle.fx_table.specs.Pass.{PassView}

-- the number of times that the pass drew the chain
abbrev pub times_drawn : ℕ → PassView → ℕ
times_drawn c v = count_by (λ d. d == c) v.drawn

pub record ClosesTable (o : Opening) (passes : List PassView) (left : Contents) : Type 0 where
  -- one history of all passes; it is legal and its end is settled
  pub history : List Event
  pub legal : IsLegal (start_of o) history (state_at o history)
  pub settled : IsSettled (state_at o history)
  -- each front is an initial part of the history, each pass's own events are its part of it, and no
  -- event has another author
  pub seen : (v : PassView) → Contains passes v → IsSeenBy v.front history
  pub own : (v : PassView) → Contains passes v → part_of_pass v.number history ≡ v.own
  pub authors : (e : Event) → Contains history e
      → (v : PassView) × Contains passes v × (e.pass ≡ v.number)
  -- the table that is returned has the files that the history leaves
  pub files : HasSameFiles (state_at o history) (state_of left)
  pub left_settled : IsSettled (state_of left)
  -- no chain was drawn twice, and if every pass got `None`, each chain was drawn
  pub chains_inside : (v : PassView) → Contains passes v → (c : ℕ) → Contains v.drawn c
      → (0 < c) × (c ≤ o.chains)
  pub drawn_once : (c : ℕ) → sum_by (times_drawn c) passes ≤ 1
  pub all_drawn : ((v : PassView) → Contains passes v → v.no_chains_left ≡ true)
      → (c : ℕ) → 0 < c → c ≤ o.chains → (v : PassView) × Contains passes v × Contains v.drawn c
