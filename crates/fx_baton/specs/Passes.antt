-- A pass of the table guarded by one word, as the contract of all shared tables shows it.
use Rattle.std.specs.Prelude.{◌≡◌, ◌-◌, ◌≤◌, ◌∷◌}
use Rattle.fx_baton.specs.Words.{ℕ, Bool, true, false, List, [], Some, None, Seat, Contents}
use Rattle.fx_baton.specs.Words.{IsTable, state_of, IsSeenBy, Event, chains_of_pass, numbers_for}
use Rattle.fx_baton.specs.Words.{PassView, IsFront, state_at, Adds, activity_of, Task, Idle}
use Rattle.fx_baton.specs.Words.{Holding, Retiring, Log, View, Start, Call, BatonPass, front_in}
use Rattle.atomic_table.specs.Seated.{TableId}
use Rattle.fx_table.specs.Turns.{HasDrawnInTurn}
use Rattle.fx_baton.specs.declared.view.Call.TheVariants.{Put as PutCall, Allocate as AllocateCall}
use Rattle.fx_baton.specs.Rule.{opening_of, seats, Knows, IsTurn}
use Rattle.fx_baton.specs.Turns.{actions_of, doing_of, events_of, use_of, table_of_seats}

abbrev pub first_own : List Log → List Event
first_own [] = []
first_own (x ∷ xs) = x.own

abbrev pub view_of : BatonPass → PassView
view_of p = record {
  number = p.number;
  front = front_in seats p.seat.me.0.logs;
  own = first_own p.seat.me.0.logs;
  chain = p.chain;
  drawn = chains_of_pass p.number p.passes p.count;
  no_chains_left = p.no_chains_left;
  numbers_left = p.numbers_left;
  looks_left = p.looks_left;
  doing = activity_of p.seat.me.0.doing;
}

-- the pass with another seat, after a call
abbrev pub pass_after : BatonPass → Call → Bool → Seat Contents View → BatonPass
pass_after p call idle seat = record p {
  seat = seat;
  numbers_left = p.numbers_left - (use_of call).numbers;
  looks_left = p.looks_left - (use_of call).looks;
  idle = idle;
}

abbrev pub is_idle : Task → Bool
is_idle Idle = true
is_idle (Holding f) = false
is_idle (Retiring f takes) = false

-- a seat with the view v has one pass, which is shown as w, at a table with this start
pub record HasOnePass (k : Start) (v : View) (w : PassView) (count : ℕ) (idle : Bool) : Type 0 where
  pub log : Log
  pub one : v.logs ≡ log ∷ []
  pub number : log.number ≡ w.number
  pub start : v.start ≡ k
  pub front : IsFront (opening_of k) w
  pub turns : HasDrawnInTurn (opening_of k) count w
  pub flag : idle ≡ is_idle v.doing

-- a pass of the table, while it doesn't have the table
pub record IsPassOf (id : TableId) (k : Start) (p : BatonPass) : Type 0 where
  pub table : p.seat.table_id ≡ id
  pub slots : p.seat.me.1 ≡ []
  pub free : p.seat.me.0.loan ≡ None
  pub passes : p.passes ≡ k.passes
  pub seated : HasOnePass k p.seat.me.0 (view_of p) p.count p.idle

-- the pass has seen more of the history, and all else is as before
pub record HasSeenMore (v w : PassView) : Type 0 where
  pub seen : IsSeenBy v.front w.front
  pub same : w ≡ record v { front = w.front }

-- a pass of the table, shown as u before, took it as c, and the table is d now
pub record HasTable (id : TableId) (k : Start) (u : PassView) (c d : Contents) (p : BatonPass)
    : Type 0 where
  pub table : p.seat.table_id ≡ id
  pub slots : p.seat.me.1 ≡ (0, d) ∷ []
  pub loan : p.seat.me.0.loan ≡ Some c
  pub passes : p.passes ≡ k.passes
  pub more : HasSeenMore u (view_of p)
  pub seated : HasOnePass k p.seat.me.0 (view_of p) p.count p.idle
  pub knows : Knows p.seat.me.0 seated.log c seated.log.front

-- the pass's next number, if each chain has `CHAIN_NUMBERS` numbers
abbrev pub next_of : PassView → ℕ
next_of v = numbers_for v.chain - v.numbers_left

-- an installation uses the pass's next number
abbrev pub UsesNext : PassView → Call → Type 0
UsesNext v (PutCall slot number file) = number ≡ next_of v
UsesNext v (AllocateCall slot number file) = number ≡ next_of v
UsesNext v _ = Unit {0}

-- a pass made these events while it had the table
pub record HasPlayed (id : TableId) (k : Start) (events : List Event) (doing : Task)
    (p : BatonPass) : Type 0 where
  pub before : PassView
  pub taken : Contents
  pub given : Contents
  pub has : HasTable id k before taken given p
  pub sound : IsTable given
  pub turn : IsTurn p.seat.me.0 has.seated.log taken given events doing

-- a pass made a call of the table that it has, and may put the table back
pub record HasCalled (id : TableId) (k : Start) (call : Call) (idle : Bool) (p : BatonPass)
    : Type 0 where
  pub before : PassView
  pub taken : Contents
  pub given : Contents
  pub has : HasTable id k before taken given p
  pub sound : IsTable given
  pub turn : IsTurn p.seat.me.0 has.seated.log taken given
      (events_of taken p.number p.chain p.seat.me.0.doing call) (doing_of taken call)
  pub uses : UsesNext (view_of p) call
  pub numbers : (use_of call).numbers ≤ p.numbers_left
  pub looks : (use_of call).looks ≤ p.looks_left
  pub flag : idle ≡ is_idle (doing_of taken call)

-- the pass p put the table back after the call, as q
pub record HasGivenBack (id : TableId) (k : Start) (call : Call) (p q : BatonPass) : Type 0 where
  pub fits : IsPassOf id k q
  -- whatever the pass was shown as before
  pub adds : (u : PassView) (c d : Contents) → HasTable id k u c d p
      → Adds (opening_of k) u (actions_of c p.seat.me.0.doing call) (activity_of (doing_of c call))
      (use_of call) (view_of q)
  -- its front leads to the state of the table that it put back
  pub end : state_at (opening_of k) (view_of q).front ≡ state_of (table_of_seats p.seat.me.1)
