-- A lock-free table and its passes, as their callers see them.
use Rattle.std.specs.Prelude.{◌≡◌, ◌*◌, ◌≤◌, ◌∷◌, ℕ, Bool, true, false, []}
use Rattle.fx_counted.specs.Words.{CHAIN_NUMBERS, Opening, PassView, IsFront, Outside, Log, Start}
use Rattle.fx_counted.specs.Words.{View, Work, Between, Idle, CountedPass}
use Rattle.atomic_table.specs.Seated.{TableId}
use Rattle.fx_counted.specs.Passes.{opening_of, pass_of, steps_of, chain_in}
use Rattle.fx_counted.specs.Effects.{IsInside}
use Rattle.fx_counted.specs.declared.table.CountedTable.{CountedTable}

-- the pass, as the contract of all shared tables shows it
abbrev pub view_of : CountedPass → PassView
view_of p = pass_of p.seat.me.0

-- the number of atomic steps that the pass has made
abbrev pub steps_taken : CountedPass → ℕ
steps_taken p = steps_of p.seat.me.0

-- between two calls a pass has no number's place
abbrev pub IsBetweenCalls : Work → Type 0
IsBetweenCalls (Between task) = Unit {0}
IsBetweenCalls _ = ⊥

-- the test that the pass is idle
abbrev pub is_idle : Work → Bool
is_idle (Between Idle) = true
is_idle _ = false

-- the agreement of the pass's fields with its log and its work
pub record Knows (p : CountedPass) (x : Log) : Type 0 where
  pub chain : p.chain ≡ chain_in x
  pub no_chains_left : p.no_chains_left ≡ x.no_chains_left
  pub numbers_left : p.numbers_left ≡ x.numbers_left
  pub looks_left : p.looks_left ≡ x.looks_left
  pub idle : p.idle ≡ is_idle p.seat.me.0.work

-- a seat with one pass, which is between two calls
pub record HasOnePass (k : Start) (v : View) (x : Log) : Type 0 where
  pub one : v.logs ≡ x ∷ []
  pub start : v.start ≡ k
  pub front : IsFront (opening_of k) (pass_of v)
  pub work : IsBetweenCalls v.work
  pub inside : IsInside k v.work
  pub change : v.change ≡ Outside
  pub chain : chain_in x ≤ k.chains
  pub few_left : x.numbers_left ≤ CHAIN_NUMBERS
  pub left_inside : x.numbers_left ≤ k.numbers * chain_in x

-- a pass of a table with this start
pub record IsPassOf (id : TableId) (k : Start) (p : CountedPass) : Type 0 where
  pub table : p.seat.table_id ≡ id
  pub places : p.seat.me.1 ≡ []
  pub log : Log
  pub seated : HasOnePass k p.seat.me.0 log
  pub knows : Knows p log

-- the opening of the table
abbrev pub opening_of_table : CountedTable → Opening
opening_of_table t = opening_of t.table.shared.key

-- the pass is one of the table
abbrev pub IsPassOfTable : CountedTable → CountedPass → Type 0
IsPassOfTable t p = IsPassOf t.table.shared.table_id t.table.shared.key p
