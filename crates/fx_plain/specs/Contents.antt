-- A table as contracts see it: lists. `state_of` is its state in the model, `leaving` the removed
-- files that aren't retired yet, and `numbers_of` the number of prepared numbers.
use Rattle.std.specs.Prelude.{◌≡◌, ℕ, ◌+◌, ◌<◌, ◌≤◌, ◌^◌, Bool, true, false, List, length, Option}
use Rattle.std.specs.Prelude.{Some, None, slice_index, slice_index_or, slice_set}
use Rattle.std.specs.Prelude.{sum, sum_by}
use Rattle.fx_base.specs.Identity.{Identity}
use Rattle.fx_plain.specs.State.{State}
use Rattle.fx_plain.specs.declared.event.File.{File}
use Rattle.fx_plain.specs.declared.table.TheConstants.{MOST_SLOTS}
use Rattle.fx_plain.specs.declared.node.Node.{Node}
pub use Rattle.fx_plain.specs.declared.node.Node.TheVariants.{Fresh, At, Leaving, Retired, Gone}

pub record Contents : Type 0 where
  -- the number of the file at each slot
  pub slots : List (Option ℕ)
  pub range : ℕ × ℕ
  -- by number, each file's state and its holds
  pub nodes : List Node
  pub holds : List ℕ
  -- the number of prepared numbers
  pub numbers : ℕ

abbrev pub slot_at : List (Option ℕ) → ℕ → Option ℕ
slot_at slots slot = slice_index_or slots slot None

abbrev pub node_at : List Node → ℕ → Node
node_at nodes number = slice_index_or nodes number Gone

-- the file of a number, if it is at a slot
abbrev pub placed_at : ℕ → Node → Option File
placed_at number (At slot file) = Some (record { number = number; identity = file })
placed_at number _ = None

-- the file of a number, if it was removed and isn't closed
abbrev pub removed_at : ℕ → Node → Option File
removed_at number (Leaving file) = Some (record { number = number; identity = file })
removed_at number (Retired file) = Some (record { number = number; identity = file })
removed_at number _ = None

abbrev pub is_fresh : Node → Bool
is_fresh Fresh = true
is_fresh _ = false

abbrev pub is_leaving : Node → Bool
is_leaving (Leaving file) = true
is_leaving _ = false

abbrev pub is_retired : Node → Bool
is_retired (Retired file) = true
is_retired _ = false

-- the file that a slot names
abbrev pub file_at : List Node → Option ℕ → Option File
file_at nodes None = None
file_at nodes (Some number) = placed_at number (node_at nodes number)

abbrev pub state_of : Contents → State
state_of c = record {
  size = length c.slots;
  range = c.range;
  at = λ slot. file_at c.nodes (slot_at c.slots slot);
  removed = λ number. removed_at number (node_at c.nodes number);
  holds = λ number. slice_index c.holds number;
  fresh = λ number. is_fresh (node_at c.nodes number);
}

-- by number, whether a file was removed and isn't retired yet
abbrev pub leaving : Contents → ℕ → Bool
leaving c number = is_leaving (node_at c.nodes number)

abbrev pub numbers_of : Contents → ℕ
numbers_of c = c.numbers

-- a slot and the node of its number name each other
abbrev pub AllPlaced : List (Option ℕ) → List Node → Type 0
AllPlaced slots nodes =
    (slot number : ℕ) → slot_at slots slot ≡ Some number
    → (file : Identity) × (node_at nodes number ≡ At slot file)

-- no slot has the number of another one
abbrev pub HaveOwnNumbers : List (Option ℕ) → Type 0
HaveOwnNumbers slots =
    (slot number : ℕ) → slot_at slots slot ≡ Some number → number < length slots → number ≡ slot

-- the invariant of a table
pub record IsTable (c : Contents) : Type 0 where
  pub few_slots : length c.slots ≤ MOST_SLOTS
  pub range_inside : c.range.0 + c.range.1 ≤ length c.slots
  pub few_nodes : length c.nodes < 2 ^ 32
  pub same_numbers : length c.holds ≡ length c.nodes
  pub placed : AllPlaced c.slots c.nodes
  -- a number below the size is that of its own slot, and no new file gets it
  pub own : HaveOwnNumbers c.slots
  pub used : (number : ℕ) → number < length c.slots → is_fresh (node_at c.nodes number) ≡ false
  -- a retired file that isn't closed has a hold
  pub held : (number : ℕ) → is_retired (node_at c.nodes number) ≡ true
      → 0 < slice_index c.holds number

-- there is room for a file under each slot's own number
abbrev pub IsPrepared : Contents → Type 0
IsPrepared c = length c.slots ≤ length c.nodes

abbrev pub file_count_of : Option ℕ → ℕ
file_count_of None = 0
file_count_of (Some number) = 1

-- 1 if the node has a removed file, else 0
abbrev pub removed_count_of : Node → ℕ
removed_count_of (Leaving file) = 1
removed_count_of (Retired file) = 1
removed_count_of _ = 0

-- the counters of a table: full slots, holds, and removed files
pub record IsCounted (c : Contents) (full held removed : ℕ) : Type 0 where
  pub full_slots : full ≡ sum_by file_count_of c.slots
  pub all_holds : held ≡ sum c.holds
  pub small_holds : (number : ℕ) → slice_index c.holds number < 2 ^ 32
  pub all_removed : removed ≡ sum_by removed_count_of c.nodes

-- a node after its file has left its slot
abbrev pub node_after_removal : Node → Node
node_after_removal (At slot file) = Leaving file
node_after_removal node = node

-- a node after its file was retired
abbrev pub node_after_retirement : Node → Node
node_after_retirement (Leaving file) = Retired file
node_after_retirement node = node

-- the file of a node in any state that has one
abbrev pub identity_in : Node → Option Identity
identity_in (At slot file) = Some file
identity_in (Leaving file) = Some file
identity_in (Retired file) = Some file
identity_in _ = None

-- the node of a slot's own number when passes begin, for the file that was at the slot
abbrev pub moved_node : Option Identity → ℕ → Node
moved_node None slot = Gone
moved_node (Some file) slot = At slot file

abbrev pub file_named : List Node → Option ℕ → Option Identity
file_named nodes None = None
file_named nodes (Some number) = identity_in (node_at nodes number)

-- a slot when passes begin: its file has the slot's own number
abbrev pub opening_slot : Option ℕ → ℕ → Option ℕ
opening_slot None slot = None
opening_slot (Some number) slot = Some slot

-- the first `kept` nodes stay, and those after them are fresh
pub record KeepsFirst (old : List Node) (kept len : ℕ) (new : List Node) : Type 0 where
  pub size : length new ≡ len
  pub same : (number : ℕ) → number < kept → node_at new number ≡ node_at old number
  pub fresh : (number : ℕ) → kept ≤ number → number < len → node_at new number ≡ Fresh

-- the nodes without the file that a slot names
abbrev pub nodes_without : List Node → Option ℕ → List Node
nodes_without nodes None = nodes
nodes_without nodes (Some number) = slice_set nodes number Gone

-- the node may have lost a file that was at a slot, but no removed file
pub record SameButPlaced (old new : Node) : Type 0 where
  pub same_fresh : is_fresh new ≡ is_fresh old
  pub same_leaving : is_leaving new ≡ is_leaving old
  pub same_retired : is_retired new ≡ is_retired old
  pub same_removed : (number : ℕ) → removed_at number new ≡ removed_at number old
