use Rattle.fx_plain.proofs.Words.{◌≡◌, ◌≤◌, ◌<◌, ℕ, Fresh, with_rest, vec_len, vec_capacity}
use Rattle.fx_plain.proofs.node_list.write_up_to.Given as goal

abbrev pub invariant-loop : goal.invariant-loop
invariant-loop l = record {
  count : vec_len l.nodes ≡ l.counter;
  few : (len : ℕ) → l.number < len → vec_len l.fn.nodes ≤ len → vec_len l.nodes ≤ len;
  same : (len : ℕ) → l.number < len → with_rest Fresh len l.nodes.items ≡ with_rest Fresh len l.fn.nodes.items;
  capacity : vec_capacity l.nodes ≡ vec_capacity l.fn.nodes;
}
