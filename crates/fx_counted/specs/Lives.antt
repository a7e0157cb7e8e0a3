-- Passes as they are handed out and gathered.
use Rattle.std.specs.Prelude.{◌≡◌, ℕ, true, false, List, [], flat_map, Option}
use Rattle.fx_counted.specs.Words.{Seat, Identity, Contents, state_of, IsSettled, HasSameFiles}
use Rattle.fx_counted.specs.Words.{PASS_LOOKS, first_view, CountedPass, Outside, Log, Start, View}
use Rattle.fx_counted.specs.Words.{Between, Idle}
use Rattle.fx_counted.specs.Agrees.{Agrees}
use Rattle.fx_counted.specs.Cuts.{seats}
use Rattle.fx_counted.specs.Passes.{Shared, state_after_all}
use Rattle.fx_counted.specs.declared.table.CountedTable.{CountedTable}
use mathlib.Core.Option.{some}
use lib.ListN.{get_elem?}

-- the passes of these seats, in their order
abbrev pub logs_in : List CountedPass → List Log
logs_in ps = flat_map (λ p. p.seat.me.0.logs) ps

-- the pass has this seat and has made no step
pub record IsNewPass (seat : Seat (Option Identity) View) (p : CountedPass) : Type 0 where
  pub its_seat : p.seat ≡ seat
  pub chain : p.chain ≡ 0
  pub chains_left : p.no_chains_left ≡ false
  pub numbers : p.numbers_left ≡ 0
  pub looks : p.looks_left ≡ PASS_LOOKS
  pub flag : p.idle ≡ true

-- the seat of a table that was just opened
pub record HasAllPasses (t : CountedTable) (seat : Seat (Option Identity) View) : Type 0 where
  pub table : seat.table_id ≡ t.table.shared.table_id
  pub me : seat.me ≡ (first_view seats t.table.shared.key, [])

-- a seat of the table whose passes are idle
pub record IsIdleSeatOf (t : CountedTable) (seat : Seat (Option Identity) View) : Type 0 where
  pub table : seat.table_id ≡ t.table.shared.table_id
  pub places : seat.me.1 ≡ []
  pub start : seat.me.0.start ≡ t.table.shared.key
  pub work : seat.me.0.work ≡ Between Idle
  pub change : seat.me.0.change ≡ Outside

-- in every last state all passes are idle
abbrev pub AllAreIdle : Start → ℕ → View → Type 0
AllAreIdle k id v = (s : Shared) → Agrees k s → get_elem? s.views id ≡ some v
    → (seat : ℕ) (u : View) → get_elem? s.views seat ≡ some u → u.work ≡ Between Idle

-- the files of the table are those of some last state
pub record Leaves (k : Start) (id : ℕ) (v : View) (left : Contents) : Type 0 where
  pub last : Shared
  pub rule : Agrees k last
  pub view : get_elem? last.views id ≡ some v
  pub files : HasSameFiles (state_after_all k rule.history) (state_of left)
  pub settled : IsSettled (state_of left)
