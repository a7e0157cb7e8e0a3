use Rattle.check_judge.proofs.{All, table_of_slots, IsCell}
use Rattle.check_judge.proofs.part.cells_of.Given as goal

abbrev pub invariant-loop-slot : goal.invariant-loop-slot
invariant-loop-slot l = All (IsCell (table_of_slots l.table.slots.now) l.table.closes.now) l.cells.items
