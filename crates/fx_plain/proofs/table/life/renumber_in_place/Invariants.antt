use Rattle.fx_plain.proofs.Words.{◌≡◌, ◌≤◌, ◌<◌, ℕ, Some, length, slot_at, node_at, IsFiled, vec_len}
use Rattle.fx_plain.proofs.OwnNumbers.{IsOpened}
use Rattle.fx_plain.proofs.table.life.renumber_in_place.Given as goal

-- the slots so far name their own numbers, whose nodes have their files, and what the others name
-- is as it was
abbrev pub invariant-loop-slot : goal.invariant-loop-slot
invariant-loop-slot l = record {
  len : vec_len l.slots ≡ vec_len l.fn.slots;
  nodes_len : length l.nodes ≡ length l.fn.nodes;
  opened : IsOpened l.fn.slots.items l.slots.items l.slot;
  filed : (s : ℕ) → s < l.slot → s < vec_len l.fn.slots → IsFiled l.fn.slots.items l.fn.nodes s (node_at l.nodes s);
  left : (s number : ℕ) → l.slot ≤ s → slot_at l.fn.slots.items s ≡ Some number → node_at l.nodes number ≡ node_at l.fn.nodes number;
  stays : (s : ℕ) → l.slot ≤ s → s < vec_len l.fn.slots → node_at l.nodes s ≡ node_at l.fn.nodes s;
}
