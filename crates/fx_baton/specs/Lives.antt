-- Passes as they are handed out and gathered.
use Rattle.std.specs.Prelude.{◌≡◌, ◌∷◌, ℕ, true, false, List, [], flat_map, None}
use Rattle.fx_baton.specs.Words.{Seat, Contents, IsTable, state_of, opening, PASS_LOOKS, Idle, Log}
use Rattle.fx_baton.specs.Words.{View, Start, BatonPass, first_view}
use Rattle.fx_baton.specs.declared.table.BatonTable.{BatonTable}
use Rattle.fx_baton.specs.Rule.{Shared, IsKept, IsHome, seats}
use lib.ListN.{get_elem?}
use mathlib.Core.Option.{some}

-- the list has one table: the other one, prepared for numbers below `numbers`
pub record HasPrepared (plain : Contents) (numbers : ℕ) (list : List Contents) : Type 0 where
  pub table : Contents
  pub only : list ≡ table ∷ []
  pub state : state_of table ≡ opening (state_of plain) numbers
  pub sound : IsTable table

-- the passes of these seats, in their order
abbrev pub logs_in : List BatonPass → List Log
logs_in ps = flat_map (λ p. p.seat.me.0.logs) ps

-- the pass has this seat and number, of `passes`, and has made no event
pub record IsNewPass (seat : Seat Contents View) (number passes : ℕ) (p : BatonPass) : Type 0 where
  pub its_seat : p.seat ≡ seat
  pub its_number : p.number ≡ number
  pub all_passes : p.passes ≡ passes
  pub count : p.count ≡ 0
  pub chain : p.chain ≡ 0
  pub chains_left : p.no_chains_left ≡ false
  pub numbers : p.numbers_left ≡ 0
  pub looks : p.looks_left ≡ PASS_LOOKS
  pub flag : p.idle ≡ true

-- the seat of a table that was just opened
pub record HasAllPasses (t : BatonTable) (seat : Seat Contents View) : Type 0 where
  pub table : seat.table_id ≡ t.table.shared.table_id
  pub me : seat.me ≡ (first_view seats t.table.shared.key, [])

-- a seat of the table whose passes are idle
pub record IsIdleSeatOf (t : BatonTable) (seat : Seat Contents View) : Type 0 where
  pub table : seat.table_id ≡ t.table.shared.table_id
  pub slots : seat.me.1 ≡ []
  pub start : seat.me.0.start ≡ t.table.shared.key
  pub idle : seat.me.0.doing ≡ Idle
  pub free : seat.me.0.loan ≡ None

-- in every last state the table is at home
abbrev pub AllIsHome : Start → ℕ → View → Type 0
AllIsHome k id v =
    (s : Shared) (r : IsKept k s) → get_elem? s.views id ≡ some v → IsHome r.contents s

-- the table is returned as it is in some last state
abbrev pub Leaves : Start → ℕ → View → Contents → Type 0
Leaves k id v c =
    (s : Shared) × (r : IsKept k s) × (get_elem? s.views id ≡ some v) × (r.contents ≡ c)
