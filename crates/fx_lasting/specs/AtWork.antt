-- The seat of one pass, between two steps of a call.
use Rattle.std.specs.Prelude.{◌≡◌, ◌<◌, ◌≤◌, ◌⊎◌, ◌∷◌, ℕ, Bool, true, false, List, [], Option}
use Rattle.fx_lasting.specs.Words.{Identity, File, Log, Start, Work, Yielding, Counted, Keeping}
use Rattle.fx_lasting.specs.Laws.{HasPass, HasItsPlace}
use Rattle.fx_lasting.specs.Passes.{Sat, HasNoFile, IsHistory}
use Rattle.fx_lasting.specs.nodes.Stocks.{IsStockOf}
use Rattle.fx_lasting.specs.Effects.{IsInside}
use mathlib.Core.Option.{some}
use lib.ListN.{get_elem?}

-- a seat with one pass of the table, which has this number, and whose front is legal
pub record IsAtWork (k : Start) (number : ℕ) (m : Sat) : Type 0 where
  pub log : Log
  pub pass : HasPass k m log
  pub its_number : log.number ≡ number
  pub low : 0 < number
  pub high : number ≤ k.passes
  pub legal : IsHistory k log.front
  pub inside : IsInside k m.0.work
  pub stock : IsStockOf k number log.stock

-- the pass is about to release the file of the node
abbrev pub IsReleasing : Work → File → ℕ → Type 0
IsReleasing w f node = (w ≡ Yielding f node) ⊎ (w ≡ Counted f node)

-- the seat's pass has the place of the node, to install its file or because its file is closed; the
-- place has this content
pub record HasPlace (node : ℕ) (inside : Option Identity) (m : Sat) : Type 0 where
  pub work : HasItsPlace m.0.work node
  pub place : m.1 ≡ (node, inside) ∷ []

-- the pass keeps the node at this entry of its stock, or looks for one
abbrev pub MayPlace : Bool → List ℕ → ℕ → Work → Type 0
MayPlace true stock entry w =
    (node : ℕ) × (lost : ℕ) × (w ≡ Keeping node lost) × (get_elem? stock entry ≡ some node)
MayPlace false stock entry w = HasNoFile w
