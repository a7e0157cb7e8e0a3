use Rattle.table_seats.proofs.Words.{◌≡◌, ◌<◌, ℕ, get_or}
use Rattle.std.proofs.Common.{false}
use Rattle.std.specs.Mem.Slots.{slots_filled, slots_items, slots_len}
use Rattle.std.specs.Mem.Slots.Ownership.{Filled}
use Rattle.table_seats.proofs.free_empty.Given as goal

-- nothing is left in the places so far
abbrev pub invariant-loop-place : goal.invariant-loop-place
invariant-loop-place l = record {
  items : slots_items l.closed.slots ≡ slots_items l.initial.closed.slots;
  count : slots_len l.closed.slots ≡ slots_len l.initial.closed.slots;
  filled : Filled (slots_filled l.closed.slots) l.place (slots_len l.closed.slots);
  taken : (k : ℕ) → k < l.place → get_or (slots_filled l.closed.slots) k false ≡ false;
}
