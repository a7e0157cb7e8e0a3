use Rattle.fx_plain.proofs.Words.{◌≡◌, ◌≤◌, ◌<◌, ℕ, with_rest, vec_len, vec_capacity}
use Rattle.fx_plain.proofs.hold_list.write_up_to.Given as goal

abbrev pub invariant-loop : goal.invariant-loop
invariant-loop l = record {
  count : vec_len l.holds ≡ l.counter;
  few : (len : ℕ) → l.number < len → vec_len l.fn.holds ≤ len → vec_len l.holds ≤ len;
  same : (len : ℕ) → l.number < len → with_rest 0 len l.holds.items ≡ with_rest 0 len l.fn.holds.items;
  capacity : vec_capacity l.holds ≡ vec_capacity l.fn.holds;
}
