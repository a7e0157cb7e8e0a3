use Rattle.check_lines.proofs.{◌≡◌, ring_files_in_order, table_of_slots}
use Rattle.check_lines.proofs.call_answer.files_at.Given as goal

abbrev pub invariant-loop-file : goal.invariant-loop-file
invariant-loop-file l = l.files.items ≡ ring_files_in_order (table_of_slots l.slots).at l.file-index
