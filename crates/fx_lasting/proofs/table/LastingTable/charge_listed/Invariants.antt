use Rattle.fx_lasting.proofs.{◌≡◌, ℕ, ◌+◌, ◌-◌, ◌/◌, ◌^◌, ◌≤◌, File, HasVisited, Sat}
use Rattle.fx_lasting.proofs.hold_lemmas.Rounds.{words_at}
use Rattle.fx_lasting.proofs.table.LastingTable.charge_listed.Given as goal

-- the listed passes so far were visited, and the bits of the others are left
abbrev pub invariant-loop-rest : goal.invariant-loop-rest
invariant-loop-rest l = record {
  table : l.seat.table_id ≡ l.initial.seat.table_id;
  places : l.seat.me.1 ≡ l.initial.seat.me.1;
  low : l.first ≤ l.pass;
  high : l.pass ≤ l.first + 64;
  few : l.charges + l.first ≤ l.pass;
  left : l.rest ≡ l.initial.rest / 2 ^ (l.pass - l.first);
  visited : (m : Sat) (f : File) (takes begin charges : ℕ)
      → HasVisited l.self.passes l.number l.node f takes begin (words_at l.first) l.initial.rest l.first charges m l.initial.seat.me
      → HasVisited l.self.passes l.number l.node f takes begin (words_at l.first) l.initial.rest l.pass (charges + l.charges) m l.seat.me;
}

abbrev pub decreases-loop-rest : goal.decreases-loop-rest
decreases-loop-rest l = l.first + 64 - l.pass
