-- The nodes that slots name, and those that passes have in stock. Each node is at one of these
-- places alone, so the nodes of a pass's stock are at no slot.
use Rattle.std.specs.Prelude.{◌≡◌, ◌+◌, ◌<◌}
use Rattle.fx_lasting.specs.Words.{ℕ, List, length, name_in, Start}
use Rattle.fx_lasting.specs.Passes.{nodes_of, stock_len}
use mathlib.Core.Option.{some}
use lib.ListN.{get_elem?}

-- where a node is
pub data Whereabouts : Type 0 where
  -- the slot's word names it
  at_slot : ℕ → Whereabouts
  -- it is this entry of the pass's stock
  in_stock : (pass entry : ℕ) → Whereabouts

-- the node is one of the stock
abbrev pub IsInStock : List ℕ → ℕ → Type 0
IsInStock stock node = (entry : ℕ) × (get_elem? stock entry ≡ some node)

-- the word of a slot, full or empty, names a node that is there
pub record NamesItsNode (k : Start) (where_is : ℕ → Whereabouts) (slot word : ℕ) : Type 0 where
  pub node : ℕ
  pub named : name_in word ≡ node + 1
  pub inside : node < nodes_of k
  pub here : where_is node ≡ at_slot slot

-- a stock of the pass has as many nodes as it needs
pub record IsStockOf (k : Start) (pass : ℕ) (stock : List ℕ) : Type 0 where
  pub count : length stock ≡ stock_len k pass
  pub inside : (entry node : ℕ) → get_elem? stock entry ≡ some node → node < nodes_of k

-- they are there
pub record StockAgrees (k : Start) (where_is : ℕ → Whereabouts) (pass : ℕ) (stock : List ℕ)
    : Type 0 where
  pub its : IsStockOf k pass stock
  pub here : (entry node : ℕ) → get_elem? stock entry ≡ some node
      → where_is node ≡ in_stock pass entry
