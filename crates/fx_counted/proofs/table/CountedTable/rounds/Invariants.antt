use Rattle.fx_counted.proofs.Words.{◌≡◌, StillPlaces, Outside}
use Rattle.fx_counted.proofs.table.CountedTable.rounds.Given as goal

abbrev pub invariant-loop : goal.invariant-loop
invariant-loop g l = record {
  table : l.seat.table_id ≡ l.initial.seat.table_id;
  still : StillPlaces l.number Outside l.initial.seat.me l.seat.me;
  can : (goal.iterator-loop g).can_next l.iterator';
  ends : (goal.iterator-loop g).is_finite l.iterator';
}
