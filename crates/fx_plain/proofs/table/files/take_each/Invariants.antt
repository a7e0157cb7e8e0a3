use Rattle.fx_plain.proofs.Words.{◌≡◌, ◌+◌, ◌++◌, slots_in_order, slot_at, file_at, vec_len, vec_capacity}
use Rattle.fx_plain.proofs.Emptying.{IsWorked}
use Rattle.fx_plain.proofs.table.files.take_each.Given as goal

-- the files of the slots so far were taken, and the others are where they were
abbrev pub invariant-loop-slot : goal.invariant-loop-slot
invariant-loop-slot l = record {
  files : l.files.items ≡ l.fn.files.items ++ slots_in_order (λ s. file_at l.fn.nodes (slot_at l.slots.items s)) l.slot;
  count : vec_len l.files ≡ vec_len l.fn.files + l.slot;
  capacity : vec_capacity l.files ≡ vec_capacity l.fn.files;
  worked : IsWorked l.slots.items l.fn.nodes l.nodes l.slot;
}
