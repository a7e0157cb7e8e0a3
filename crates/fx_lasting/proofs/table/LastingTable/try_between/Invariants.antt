use Rattle.fx_lasting.proofs.{◌≡◌, ◌-◌, ◌*◌, StillPlaces, FailsToFill, EachFrom}
use Rattle.fx_lasting.proofs.table.LastingTable.try_between.Given as goal

abbrev pub invariant-loop-slot : goal.invariant-loop-slot
invariant-loop-slot l = record {
  table : l.seat.table_id ≡ l.initial.seat.table_id;
  still : StillPlaces l.node l.lost l.file (3 * (l.slot - l.from)) l.initial.seat.me l.seat.me;
  fails : EachFrom l.from l.slot (FailsToFill l.self.table.shared.key l.initial.seat.me l.seat.me);
}
