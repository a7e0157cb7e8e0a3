-- The state of a table with one pass, without closing the table.
use Rattle.std.specs.Prelude.{◌≡◌, ℕ, ◌+◌, ◌<◌, ◌≤◌, false, Option, Some, None, Contains}
use Rattle.fx_plain.specs.State.{IsSettled}
use Rattle.fx_plain.specs.History.{IsLegal, held_by}
use Rattle.fx_table.specs.Opening.{Opening, start_of, state_at}
use Rattle.fx_table.specs.Pass.{PassView}

-- the only pass's own events are the whole history so far; it is legal and its end is settled
pub record IsSettledSoFar (o : Opening) (v : PassView) : Type 0 where
  pub whole : v.front ≡ v.own
  pub legal : IsLegal (start_of o) v.own (state_at o v.own)
  pub settled : IsSettled (state_at o v.own)
  -- the pass holds nothing, so that the continuation is legal by itself
  pub held : held_by v.own v.number ≡ None
  pub chains_inside : (c : ℕ) → Contains v.drawn c → (0 < c) × (c ≤ o.chains)

-- a table's only pass draws the chains in order
abbrev pub DrawsNext : Opening → PassView → Option ℕ → Type 0
DrawsNext o v result = v.no_chains_left ≡ false → v.chain < o.chains → result ≡ Some (v.chain + 1)
