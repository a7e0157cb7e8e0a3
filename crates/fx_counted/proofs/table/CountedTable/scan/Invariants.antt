use Rattle.fx_counted.proofs.Words.{◌≡◌, StillPlaces, Same}
use Rattle.fx_counted.proofs.table.CountedTable.scan.Given as goal

abbrev pub invariant-loop-slot : goal.invariant-loop-slot
invariant-loop-slot l = record {
  table : l.seat.table_id ≡ l.initial.seat.table_id;
  still : StillPlaces l.number Same l.initial.seat.me l.seat.me;
}
