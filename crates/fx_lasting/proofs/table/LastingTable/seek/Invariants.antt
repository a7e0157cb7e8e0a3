use Rattle.fx_lasting.proofs.{◌≡◌}
use Rattle.fx_lasting.proofs.node_lemmas.Sought.{Sought}
use Rattle.fx_lasting.proofs.table.LastingTable.seek.Given as goal

-- some node is free that wasn't read yet
abbrev pub invariant-loop : goal.invariant-loop
invariant-loop l = record {
  table : l.seat.table_id ≡ l.initial.seat.table_id;
  places : l.seat.me.1 ≡ l.initial.seat.me.1;
  sought : Sought l.stock l.len l.start l.counter l.entry l.initial.seat.me l.seat.me;
}
