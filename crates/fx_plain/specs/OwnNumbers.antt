-- Files that get their slots' own numbers.
use Rattle.std.specs.Prelude.{◌≡◌, ℕ, ◌<◌, ◌≤◌, ◌⊎◌, false, List, length, Option, Some, None}
use Rattle.std.specs.Prelude.{sum_by}
use Rattle.fx_plain.specs.Contents.{slot_at, node_at, identity_in, is_fresh, moved_node}
use Rattle.fx_plain.specs.Contents.{opening_slot}
use Rattle.fx_plain.specs.Contents.{removed_count_of, file_count_of, Fresh}
use Rattle.fx_plain.specs.declared.node.Node.{Node}
use Rattle.fx_plain.specs.declared.slot_span.SlotSpan.{SlotSpan}

abbrev pub IsOutside : SlotSpan → ℕ → Type 0
IsOutside span slot = (slot < span.start) ⊎ (span.end ≤ slot)

-- the file of each slot outside the span has the slot's own number
pub record HaveOwnOutside (slots : List (Option ℕ)) (span : SlotSpan) : Type 0 where
  pub inside : span.end ≤ length slots
  pub own : (slot number : ℕ) → slot_at slots slot ≡ Some number → IsOutside span slot
      → number ≡ slot

-- the node has no removed file, and no new file gets its number
pub record IsVacant (node : Node) : Type 0 where
  pub used : is_fresh node ≡ false
  pub none_removed : removed_count_of node ≡ 0

-- the node of an empty slot's own number is vacant
abbrev pub AreVacant : List (Option ℕ) → List Node → Type 0
AreVacant slots nodes = (slot : ℕ) → slot < length slots → slot_at slots slot ≡ None
    → IsVacant (node_at nodes slot)

-- the new node of a slot's own number: it has the slot's file, if there is one
pub record IsFiled (slots : List (Option ℕ)) (nodes : List Node) (slot : ℕ) (node : Node)
    : Type 0 where
  pub file : (number : ℕ) → slot_at slots slot ≡ Some number
      → node ≡ moved_node (identity_in (node_at nodes number)) slot
  pub vacant : slot_at slots slot ≡ None → IsVacant node

-- each file now has its slot's number, and is in the node of that number
pub record AreFiled (slots : List (Option ℕ)) (nodes : List Node) (new : List (Option ℕ))
    (moved : List Node) : Type 0 where
  pub same_size : length new ≡ length slots
  pub named : (slot : ℕ) → slot < length slots
      → slot_at new slot ≡ opening_slot (slot_at slots slot) slot
  pub filed : (slot : ℕ) → slot < length slots → IsFiled slots nodes slot (node_at moved slot)
  pub same_full : sum_by file_count_of new ≡ sum_by file_count_of slots

-- and there are `numbers` numbers; those after the slots' own are fresh
pub record IsRenumbered (slots : List (Option ℕ)) (nodes : List Node) (new : List (Option ℕ))
    (moved : List Node) (numbers : ℕ) : Type 0 where
  pub files : AreFiled slots nodes new moved
  pub size : length moved ≡ numbers
  pub fresh : (number : ℕ) → length slots ≤ number → number < numbers
      → node_at moved number ≡ Fresh
