-- A pass that searches the allocation range for an empty slot.
use Rattle.std.specs.Prelude.{◌≡◌, ◌+◌, ◌*◌, ◌<◌, ◌≤◌, ◌∷◌, None}
use Rattle.fx_lasting.specs.Words.{ℕ, [], Option, Some, Result, Ok, Err, Identity, ◌▷◌, numbered}
use Rattle.fx_lasting.specs.Words.{File, Allocate, Adds, IsNewFile, no_use, one_number, Opening}
use Rattle.fx_lasting.specs.Words.{size_of, PassView, group_size, groups_in, TriedPut, At, Placing}
use Rattle.fx_plain.specs.declared.event.Action.TheVariants.{Full}
use Rattle.fx_table.specs.declared.values.Doing.TheVariants.{Idle as DoesNothing}
use Rattle.fx_lasting.specs.Ends.{Does}
use Rattle.fx_lasting.specs.nodes.Labels.{label_of, as_written}
use Rattle.fx_lasting.specs.Fields.{most_carried}
use Rattle.fx_lasting.specs.Passes.{Sat, nodes_of, node_of_number}
use Rattle.fx_lasting.specs.nodes.Stocks.{IsInStock}
use Rattle.fx_lasting.specs.Effects.{as_swapped, pass_in}
use Rattle.fx_lasting.specs.declared.tried.TriedPut.TheVariants.{Full as AllFull, Again}
use Rattle.fx_lasting.specs.declared.view.Work.TheVariants.{Idle}
use mathlib.Core.Option.{some}
use lib.ListN.{get_elem?}

-- the seat's pass has the place of a node of its stock, whose word has lost `lost` takes, with the
-- file that it is about to install
pub record IsPlacing (node lost : ℕ) (file : Identity) (m : Sat) : Type 0 where
  pub work : m.0.work ≡ Placing node (as_written lost (label_of file))
  pub few_lost : lost ≤ most_carried
  pub place : m.1 ≡ (node, Some file) ∷ []
  pub stocked : IsInStock (pass_in m).stock node

-- the file is at the slot, which was empty before, on the node. The node that the slot named before
-- takes its place in the stock
abbrev pub HasAllocated : (node : ℕ) → Identity → (slot named most : ℕ) → Sat → Sat → Type 0
HasAllocated node file slot named most m m' = (named < nodes_of m.0.start) × (m'.1 ≡ [])
    × ((entry : ℕ) → get_elem? (pass_in m).stock entry ≡ some node
    → (number : ℕ) × (node_of_number m.0.start number ≡ node)
    × Does (as_swapped entry named m) ([] ▷ Allocate slot (numbered number file)) Idle most m')

-- the file is still to be installed
abbrev pub StillPlaces : (node lost : ℕ) → Identity → ℕ → Sat → Sat → Type 0
StillPlaces node lost file most m m' =
    Does m [] (Placing node (as_written lost (label_of file))) most m' × (m'.1 ≡ m.1)

-- the steps of a try at each slot of a group, and of one at each slot of the range
abbrev pub group_steps : ℕ → ℕ
group_steps len = 3 * group_size len + 1

abbrev pub scan_steps : ℕ → ℕ
scan_steps len = groups_in len * group_steps len + 3

-- a try at one slot
abbrev pub Tries : (node lost : ℕ) → Identity → ℕ → Sat → Option ℕ → Sat → Type 0
Tries node lost file slot m (Some named) m' = HasAllocated node file slot named 3 m m'
Tries node lost file slot m None m' = StillPlaces node lost file 3 m m'

-- the result of a search that doesn't ask whether all is full
abbrev pub without_asking : Result ℕ Identity → TriedPut
without_asking (Ok slot) = At slot
without_asking (Err back) = Again back

-- the result of one try over the range
abbrev pub TriedSo : Opening → PassView → Identity → TriedPut → PassView → Type 0
TriedSo o v file (At slot) w = (slot < size_of o) × ((new : File) × IsNewFile o v file new
    × Adds o v ([] ▷ Allocate slot new) DoesNothing one_number w)
TriedSo o v file (AllFull back) w = (back ≡ file) × Adds o v ([] ▷ Full) DoesNothing no_use w
TriedSo o v file (Again back) w = (back ≡ file) × Adds o v [] DoesNothing no_use w
