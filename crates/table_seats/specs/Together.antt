-- The rule of a shared table about its seats: together they have each pass once, and one legal
-- history has all that they have seen and made.
use Rattle.std.specs.Prelude.{◌≡◌, ℕ, ◌==◌, ◌⊎◌, List, [], length, Contains, count_by, sum_by}
use mathlib.Core.Option.{some}
use lib.ListN.{get_elem?}
use Rattle.fx_plain.specs.History.{IsLegal, IsSeenBy, part_of_pass}
use Rattle.fx_plain.specs.declared.event.Event.{Event}
use Rattle.fx_table.specs.Numbers.{once}
use Rattle.fx_table.specs.Opening.{start_of, state_at}
use Rattle.table_seats.specs.Seats.{Seats}

module _ {V L K : Type 0} (W : Seats V L K) where
  -- the number of a seat's passes with this number, and of all its passes
  abbrev pub logs_of : ℕ → V → ℕ
  logs_of p v = count_by (λ x. W.number x == p) (W.logs v)

  abbrev pub lengths : V → ℕ
  lengths v = length (W.logs v)

  -- a pass has seen a beginning of the history, with all its own events
  pub record HasSeen (h : List Event) (x : L) : Type 0 where
    pub seen : IsSeenBy (W.front x) h
    pub own : part_of_pass (W.number x) h ≡ W.own x

  -- a seat: what its passes have seen, and the history that it shows
  pub record IsSeated (k : K) (h : List Event) (v : V) : Type 0 where
    pub passes : (x : L) → Contains (W.logs v) x → HasSeen h x
    pub known : IsSeenBy (W.known v) h
    pub empty : W.logs v ≡ [] → W.IsIdle v
    pub start : (W.logs v ≡ []) ⊎ (W.start v ≡ k)

  -- all seats of the table that began as `k`
  pub record Together (k : K) (views : List V) (h : List Event) : Type 0 where
    pub legal : IsLegal (start_of (W.opening k)) h (state_at (W.opening k) h)
    pub seats : (seat : ℕ) (v : V) → get_elem? views seat ≡ some v → IsSeated k h v
    -- each pass is in one view, and no event has another author
    pub passes : (p : ℕ) → sum_by (logs_of p) views ≡ once (W.opening k).passes p
    pub whole : sum_by lengths views ≡ (W.opening k).passes
    pub authors : (p : ℕ) → once (W.opening k).passes p ≡ 0 → part_of_pass p h ≡ []
