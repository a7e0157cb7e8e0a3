use Rattle.fx_order.proofs.{◌≡◌, ℕ, ◌+◌, ◌<◌, false, slice_index_or, is_lt, mark_cmp, Closed}
use Rattle.fx_order.proofs.order.is_in_order.Given as goal

abbrev pub invariant-loop-i : goal.invariant-loop-i
invariant-loop-i l = (k : ℕ) (d : Closed) → k + 1 < l.i
    → is_lt (mark_cmp (slice_index_or l.files (k + 1) d).mark (slice_index_or l.files k d).mark) ≡ false
