use Rattle.fx_plain.proofs.Words.{◌≡◌, ◌+◌, length, take, vec_capacity}
use Rattle.fx_plain.proofs.node_list.cut_off.Given as goal

abbrev pub invariant-loop : goal.invariant-loop
invariant-loop l = record {
  size : length l.nodes.items + l.counter ≡ length l.fn.nodes.items + l.kept;
  same : take l.kept l.nodes.items ≡ take l.kept l.fn.nodes.items;
  capacity : vec_capacity l.nodes ≡ vec_capacity l.fn.nodes;
}
