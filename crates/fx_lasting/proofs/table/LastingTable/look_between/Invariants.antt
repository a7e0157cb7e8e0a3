use Rattle.fx_lasting.proofs.{◌≡◌, ◌-◌, [], EachFrom, WasFull}
use Rattle.fx_lasting.specs.Ends.{Does}
use Rattle.fx_lasting.proofs.table.LastingTable.look_between.Given as goal

abbrev pub invariant-loop-slot : goal.invariant-loop-slot
invariant-loop-slot l = record {
  table : l.seat.table_id ≡ l.initial.seat.table_id;
  places : l.seat.me.1 ≡ l.initial.seat.me.1;
  still : Does l.initial.seat.me [] l.initial.seat.me.0.work (l.slot - l.from) l.seat.me;
  full : EachFrom l.from l.slot (WasFull l.self.table.shared.key l.initial.seat.me l.seat.me);
}
