use Rattle.fx_lasting.proofs.{◌≡◌, Covered, AsksSo, pass_in, true}
use Rattle.fx_lasting.proofs.table.LastingTable.ask.Given as goal

-- the groups before this one are visited
abbrev pub invariant-loop-group : goal.invariant-loop-group
invariant-loop-group l = record {
  table : l.seat.table_id ≡ l.initial.seat.table_id;
  places : l.seat.me.1 ≡ l.initial.seat.me.1;
  asked : AsksSo (Covered l.group) l.group l.initial.seat.me l.seat.me;
  asks : (pass_in l.seat.me).watch.asks ≡ true;
}
