use Rattle.fx_counted.proofs.Words.{◌≡◌, slots_items, slots_len, IsFull, state_of, IsPrepared}
use Rattle.fx_table.proofs.Shells.{AreComing}
use Rattle.fx_counted.proofs.HomeComing.{place_at}
use Rattle.fx_counted.proofs.table.CountedTable.finish.Given as goal

-- the files of the slots so far are back, and their places are empty
abbrev pub invariant-loop-slot : goal.invariant-loop-slot
invariant-loop-slot l = record {
  coming : AreComing l.size (place_at l.size (slots_items l.initial.closed.words)) (state_of l.fn.self.shell) (slots_items l.initial.closed.slots)
      l.slot (slots_items l.closed.slots) (state_of l.shell);
  prepared : IsPrepared l.shell;
  count : slots_len l.closed.slots ≡ slots_len l.initial.closed.slots;
  full : IsFull l.closed.slots;
  words : l.closed.words ≡ l.initial.closed.words;
}
