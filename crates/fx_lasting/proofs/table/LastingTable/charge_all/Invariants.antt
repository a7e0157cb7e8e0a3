use Rattle.fx_lasting.proofs.{◌≡◌, ℕ, ◌+◌, ◌-◌, ◌*◌, ◌≤◌, File, Retiring, HasVisited, new_round}
use Rattle.fx_lasting.proofs.table.LastingTable.charge_all.Given as goal

-- the passes so far were visited
abbrev pub invariant-loop-pass : goal.invariant-loop-pass
invariant-loop-pass l = record {
  table : l.seat.table_id ≡ l.initial.seat.table_id;
  places : l.seat.me.1 ≡ l.initial.seat.me.1;
  near : l.pass ≤ l.self.passes + 64;
  few : l.charges + l.first ≤ l.pass;
  visited : (words : ℕ) × (last : ℕ) × (l.pass ≡ l.first + 64 * words) × ((f : File) (takes : ℕ)
      → l.initial.seat.me.0.work ≡ Retiring f l.node takes (new_round l.first) 0
      → HasVisited l.self.passes l.number l.node f takes l.first words last l.pass l.charges l.initial.seat.me l.seat.me);
}

abbrev pub decreases-loop-pass : goal.decreases-loop-pass
decreases-loop-pass l = l.self.passes + 1 - l.pass
