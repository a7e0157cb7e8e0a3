use Rattle.fx_direct.proofs.Words.{◌≡◌, ℕ, ◌&&◌, not, is_among_vacant, is_ranged}
use Rattle.std.proofs.Common.{nat_lt}
use Rattle.fx_direct.proofs.slot_order.SlotOrder.of_vacant.Given as goal

abbrev pub invariant-loop-slot : goal.invariant-loop-slot
invariant-loop-slot l = record {
  same : l.order.size ≡ l.fn.n;
  range : l.order.range ≡ l.fn.range;
  each : (other : ℕ) → is_among_vacant l.order other ≡ nat_lt other l.slot && not (is_ranged l.fn.range other);
}
