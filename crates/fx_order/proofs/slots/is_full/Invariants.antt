use Rattle.fx_order.proofs.{ℕ, ◌+◌, ◌<◌, ◌≤◌, IsSome, None, slice_index_or}
use Rattle.fx_order.proofs.slots.is_full.Given as goal

-- each slot of the range that was looked at has a file
abbrev pub invariant-loop-slot : goal.invariant-loop-slot
invariant-loop-slot l = (k : ℕ) → k < l.slot → (l.range.0 ≤ k) × (k < l.range.0 + l.range.1) → IsSome (slice_index_or l.at k None)
