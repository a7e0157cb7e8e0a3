use Rattle.fx_plain.proofs.Words.{◌≡◌, ◌≤◌, ◌<◌, ℕ, Some, length, slot_at, node_at, moved_node, file_named, vec_len, vec_capacity}
use Rattle.fx_plain.proofs.OwnNumbers.{IsOpened}
use Rattle.fx_plain.proofs.table.life.renumber_into.Given as goal

-- the slots so far name their own numbers, and the others are as they were, with their files
abbrev pub invariant-loop-slot : goal.invariant-loop-slot
invariant-loop-slot l = record {
  len : vec_len l.slots ≡ vec_len l.fn.slots;
  nodes_len : length l.nodes ≡ length l.fn.nodes;
  count : vec_len l.moved ≡ l.slot;
  room : vec_capacity l.moved ≡ vec_capacity l.fn.moved;
  opened : IsOpened l.fn.slots.items l.slots.items l.slot;
  moved : (s : ℕ) → s < l.slot → node_at l.moved.items s ≡ moved_node (file_named l.fn.nodes (slot_at l.fn.slots.items s)) s;
  left : (s number : ℕ) → l.slot ≤ s → slot_at l.fn.slots.items s ≡ Some number → node_at l.nodes number ≡ node_at l.fn.nodes number;
}
