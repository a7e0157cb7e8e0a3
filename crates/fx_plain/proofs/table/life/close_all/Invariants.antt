use Rattle.fx_plain.proofs.Words.{◌≡◌, ◌+◌, ◌++◌, length, files_in_order, slot_at, file_at}
use Rattle.fx_plain.proofs.Emptying.{IsWorked}
use Rattle.fx_plain.proofs.table.life.close_all.Given as goal

-- the files of the slots so far were closed, and the others are where they were
abbrev pub invariant-loop-slot : goal.invariant-loop-slot
invariant-loop-slot l = record {
  files : l.closes.files ≡ l.fn.closes.files ++ files_in_order (λ s. file_at l.fn.nodes (slot_at l.slots.items s)) l.slot;
  room : l.closes.room + length (files_in_order (λ s. file_at l.fn.nodes (slot_at l.slots.items s)) l.slot) ≡ l.fn.closes.room;
  worked : IsWorked l.slots.items l.fn.nodes l.nodes l.slot;
}
