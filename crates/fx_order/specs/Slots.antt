-- A table's slots, as contracts see them.
use Rattle.fx_order.specs.Words.{ℕ, List, length, slice_index_or, Option, None, Identity, FileEntry}
use Rattle.fx_order.specs.Words.{RingState, Slots}
use Rattle.std.specs.Prelude.{◌≡◌, ◌<◌}
use Rattle.fx_order.specs.Access.{Table}
use Rattle.fx_order.specs.declared.ring_slots.RingSlots.{RingSlots}

abbrev pub table_of_slots : Slots → Table
table_of_slots slots = record {
  size = length slots.at.items;
  range = slots.range;
  at = λ slot. slice_index_or slots.at.items slot None;
}

-- the slot is one of the list, and has this file or none
abbrev pub IsFoundAt : List (Option Identity) → ℕ → Option Identity → Type 0
IsFoundAt at slot found = (slot < length at) × (found ≡ slice_index_or at slot None)

-- a ring whose table has these slots
abbrev pub ring_of_slots : List FileEntry → Slots → ℕ → ℕ → RingState
ring_of_slots catalogue slots submissions registrations = record {
  catalogue = catalogue;
  size = (table_of_slots slots).size;
  range = (table_of_slots slots).range;
  at = (table_of_slots slots).at;
  submissions = submissions;
  registrations = registrations;
}

-- the ring with this catalogue that has these slots and counts
abbrev pub ring_with_slots : List FileEntry → RingSlots → RingState
ring_with_slots catalogue ring =
    ring_of_slots catalogue ring.slots ring.submissions ring.registrations
