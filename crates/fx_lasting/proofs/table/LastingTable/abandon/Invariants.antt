use Rattle.fx_lasting.proofs.{◌≡◌, ◌<◌, ℕ, false, get_or, slots_len, slots_filled, Filled}
use Rattle.fx_lasting.proofs.table.LastingTable.abandon.Given as goal

-- nothing is left in the places so far
abbrev pub invariant-loop-place : goal.invariant-loop-place
invariant-loop-place l = record {
  count : slots_len l.closed.slots ≡ slots_len l.initial.closed.slots;
  filled : Filled (slots_filled l.closed.slots) l.place (slots_len l.closed.slots);
  taken : (k : ℕ) → k < l.place → get_or (slots_filled l.closed.slots) k false ≡ false;
}
