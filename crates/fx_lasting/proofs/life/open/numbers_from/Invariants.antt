use Rattle.fx_lasting.proofs.{◌≡◌, ◌-◌, ◌+◌, ◌≤◌, vec_capacity, range_with_len}
use Rattle.fx_lasting.proofs.life.open.numbers_from.Given as goal

abbrev pub invariant-loop-number : goal.invariant-loop-number
invariant-loop-number l = record {
  items : l.list.items ≡ range_with_len l.first (l.number - l.first);
  room : l.len + 16 ≤ vec_capacity l.list;
}
