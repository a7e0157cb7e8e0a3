use Rattle.fx_order.proofs.{◌≡◌, ℕ, ◌+◌, ◌-◌, ◌<◌, false, List, length, arith, slice_index_or, is_lt, get_or_default, mark_cmp, Closed, ghosts}
use Rattle.fx_order.proofs.order.is_in_order.Goals as goal

in_order_here : (files : List Closed) {i : ℕ} (k : ℕ) (d e f : Closed) → i < length files → k + 1 ≡ i
    → is_lt (ghosts.cmp (slice_index_or files i e).mark (slice_index_or files (i - 1) f).mark) ≡ false
    → is_lt (mark_cmp (slice_index_or files (k + 1) d).mark (slice_index_or files k d).mark) ≡ false
in_order_here files {i} k d e f within next is = grind (arith, get_or_default)

pub loop-i-preserved : goal.loop-i-preserved
loop-i-preserved c = grind (arith, in_order_here, c.loop-i.invariant, c.loop-i-test.true, c.cmp.ensures, c.is_lt.ensures, c.if-is_lt.false)
