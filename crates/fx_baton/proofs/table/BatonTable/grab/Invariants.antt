use Rattle.fx_baton.proofs.Words.{◌≡◌}
use Rattle.fx_baton.proofs.table.BatonTable.grab.Given as goal

abbrev pub invariant-loop : goal.invariant-loop
invariant-loop g l = record {
  table : l.seat.table_id ≡ l.initial.seat.table_id;
  id : l.seat.id ≡ l.initial.seat.id;
  me : l.seat.me ≡ l.initial.seat.me;
  can : (goal.iterator-loop g).can_next l.iterator';
  ends : (goal.iterator-loop g).is_finite l.iterator';
}
