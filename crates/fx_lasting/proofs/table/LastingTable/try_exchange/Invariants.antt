use Rattle.fx_lasting.proofs.{◌≡◌, [], ◌+◌, full_name_in}
use Rattle.fx_lasting.specs.Ends.{Does}
use Rattle.fx_lasting.proofs.slot_lemmas.Overtaking.{Tried}
use Rattle.fx_lasting.proofs.table.LastingTable.try_exchange.Given as goal

-- the pass has done nothing yet, and expects a word that names the node
abbrev pub invariant-loop : goal.invariant-loop
invariant-loop g l = record {
  table : l.seat.table_id ≡ l.initial.seat.table_id;
  places : l.seat.me.1 ≡ l.initial.seat.me.1;
  named : full_name_in l.expected ≡ l.node + 1;
  still : Does l.initial.seat.me [] l.initial.seat.me.0.work l.counter l.seat.me;
  tries : Tried l.slot l.expected l.counter l.initial.seat.me l.seat.me;
}
