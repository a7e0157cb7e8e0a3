-- The views of a shared table's seats, by what all such tables have, and how views are cut, joined
-- and shown.
use Rattle.std.specs.Prelude.{ℕ, ◌+◌, ◌-◌, List, [], ◌∷◌, ◌++◌, map, take, drop}
use Rattle.std.specs.List.{range_with_len}
use Rattle.fx_plain.specs.declared.event.Event.{Event}
use Rattle.fx_table.specs.Opening.{Opening}

-- a table's views `V`, its logs `L`, one for each pass, and its starts `K`
pub record Seats (V L K : Type 0) : Type 1 where
  -- the logs of a seat's passes, the start at which the seat began, and the history that it shows
  pub logs : V → List L
  pub start : V → K
  pub known : V → List Event
  -- a seat does nothing
  pub IsIdle : V → Type 0
  -- the number of a log's pass, the history that the pass has seen, and its own events
  pub number : L → ℕ
  pub front : L → List Event
  pub own : L → List Event
  -- the table as it was opened
  pub opening : K → Opening
  -- the log of a new pass with this number
  pub new_log : K → ℕ → L
  -- an idle view with these logs, at the opening
  pub begun : K → List L → V
  -- the same idle view with other logs
  pub with_logs : V → List L → V
  -- the view of a seat without passes that shows this history
  pub showing : List Event → V

module _ {V L K : Type 0} (W : Seats V L K) where
  -- `n` new passes, numbered from `p`
  abbrev pub new_logs : K → (p n : ℕ) → List L
  new_logs k p n = map (W.new_log k) (range_with_len p n)

  -- the view of the seat that opens the table
  abbrev pub first_view : K → V
  first_view k = W.begun k (new_logs k 1 (W.opening k).passes)

  -- the view of a seat that has the new passes from p to the last
  abbrev pub dealt : K → ℕ → V
  dealt k p = W.begun k (new_logs k p (((W.opening k).passes + 1) - p))

  -- a view without the first of its passes, and with that one alone
  abbrev pub without_first : V → V
  without_first v = W.with_logs v (drop 1 (W.logs v))

  abbrev pub first_alone : V → V
  first_alone v = W.with_logs v (take 1 (W.logs v))

  -- a view with the passes of another: each keeps its own front
  abbrev pub joined : V → V → V
  joined v w = W.with_logs v (W.logs v ++ W.logs w)

  -- the view of a seat whose passes went to another
  abbrev pub spent : V
  spent = W.showing []

  -- all that the first pass of a seat has seen
  abbrev pub front_in : List L → List Event
  front_in [] = []
  front_in (x ∷ xs) = W.front x

  -- the view of a seat without passes that shows all that the first pass of the view `v` has seen
  abbrev pub shown_view : V → V
  shown_view v = W.showing (front_in (W.logs v))
