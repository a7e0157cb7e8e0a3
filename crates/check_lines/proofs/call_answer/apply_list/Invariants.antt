use Rattle.check_lines.proofs.{◌≡◌, ◌+◌, ◌++◌, drop, table_of_slots, removed_from, tags_for, files_upto, AreInRange}
use Rattle.check_lines.proofs.call_answer.apply_list.Given as goal

abbrev pub invariant-loop-i : goal.invariant-loop-i
invariant-loop-i l = record {
  table : table_of_slots l.slots ≡ record (table_of_slots l.fn.slots) {
    at = files_upto l.k (table_of_slots l.fn.slots).at l.off l.list (tags_for l.list l.tags) l.i;
  };
  in_range : AreInRange (table_of_slots l.fn.slots).at → AreInRange (table_of_slots l.slots).at;
  removed : l.removed.items ++ removed_from (table_of_slots l.fn.slots).at (l.off + l.i) (drop l.i l.list)
      ≡ removed_from (table_of_slots l.fn.slots).at l.off l.list;
}
