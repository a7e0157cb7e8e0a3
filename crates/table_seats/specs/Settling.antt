-- A step that changes nothing, and yields that the rule holds.
use Rattle.std.specs.Prelude.{◌≡◌, ℕ}
use lib.ListN.{get_elem?}
use mathlib.Core.Option.{some}
use Rattle.atomic_table.specs.Table.{State, Me, Step}

-- in some state with this seat, the rule of the seat's start holds
pub record Observes {S V K : Type 0} (Holds : K → State S V → Type 0) (start : V → K)
    (st : Step S) (m : Me S V) (found : ℕ) (m' : Me S V) : Type 0 where
  pub last : State S V
  pub rule : Holds (start m.0) last
  pub seat : ℕ
  pub view : get_elem? last.views seat ≡ some m.0
  pub same : m' ≡ m
