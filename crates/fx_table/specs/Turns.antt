-- Passes that take turns at the chains: pass p of n draws p, p + n, p + 2n and so on.
use Rattle.std.specs.Prelude.{◌≡◌, ℕ, ◌+◌, ◌*◌, ◌<◌, ◌≤◌, true}
use Rattle.fx_table.specs.declared.limits.TheConstants.{CHAIN_NUMBERS}
use Rattle.fx_table.specs.Numbers.{chains_of_pass, last_chain_of_pass, number_following}
use Rattle.fx_table.specs.Opening.{Opening}
use Rattle.fx_table.specs.Pass.{PassView, next_number}

-- the pass is one of the table's, each chain has `CHAIN_NUMBERS` numbers, and the pass has drawn
-- its first `count` chains
pub record HasDrawnInTurn (o : Opening) (count : ℕ) (v : PassView) : Type 0 where
  pub whole : o.numbers ≡ CHAIN_NUMBERS
  pub number : (1 ≤ v.number) × (v.number ≤ o.passes)
  pub drawn : v.drawn ≡ chains_of_pass v.number o.passes count
  pub chain : v.chain ≡ last_chain_of_pass v.number o.passes count
  pub reached : v.chain ≤ o.chains
  pub last_drawn : v.no_chains_left ≡ true → o.chains < v.number + count * o.passes
  -- the numbers that are left belong to the last chain, and no file of this pass has them
  pub few_left : v.numbers_left ≤ CHAIN_NUMBERS
  pub left_inside : v.numbers_left ≤ CHAIN_NUMBERS * v.chain
  pub unused : number_following v.own ≤ next_number o v
