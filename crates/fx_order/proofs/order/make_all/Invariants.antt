use Rattle.fx_order.proofs.{◌≡◌, ◌↔◌, drop, PermitsAll, table_after, accesses_of, table_of_slots}
use Rattle.fx_order.proofs.order.make_all.Given as goal

-- the accesses from here on are permitted if all were at first, and lead to the same table
abbrev pub invariant-loop-x : goal.invariant-loop-x
invariant-loop-x l = record {
  permitted : PermitsAll (table_of_slots l.slots) (accesses_of (drop l.x-index l.order))
      ↔ PermitsAll (table_of_slots l.initial.slots) (accesses_of l.order);
  made : table_after (table_of_slots l.slots) (accesses_of (drop l.x-index l.order))
      ≡ table_after (table_of_slots l.initial.slots) (accesses_of l.order);
}
