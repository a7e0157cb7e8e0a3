use Rattle.fx_lasting.proofs.{◌≡◌, slots_items, slots_len, IsFull, ◌≤◌, vec_capacity, vec_len}
use Rattle.fx_lasting.proofs.life_lemmas.Listed.{AreListed}
use Rattle.fx_lasting.proofs.life_lemmas.HomeComing.{node_at}
use Rattle.fx_lasting.proofs.table.LastingTable.finish.Given as goal

-- the files of the slots so far are in the list, and their places are empty
abbrev pub invariant-loop-slot : goal.invariant-loop-slot
invariant-loop-slot l = record {
  listed : AreListed l.size (node_at (slots_items l.initial.closed.words)) (slots_items l.initial.closed.slots)
      l.slot (slots_items l.closed.slots) l.files.items;
  inside : l.slot ≤ l.size;
  room : vec_len l.files ≤ l.slot;
  capacity : l.size ≤ vec_capacity l.files;
  count : slots_len l.closed.slots ≡ slots_len l.initial.closed.slots;
  full : IsFull l.closed.slots;
  words : l.closed.words ≡ l.initial.closed.words;
}
