use Rattle.check_search.proofs.Words.{◌<◌, ℕ, Vec, slice_index_or, all_unpacked, unpacked, IsLookedThrough}
use Rattle.check_search.proofs.certificate.Check.is_closed.Given as goal

abbrev pub invariant-loop-row : goal.invariant-loop-row
invariant-loop-row l = (k : ℕ) (d : Vec ℕ) → k < l.row-index → IsLookedThrough l.self.strands.now
    (all_unpacked l.self.steps.now.packing l.self.rows.now.keys) (unpacked l.self.steps.now.packing (slice_index_or l.rows k d).items)
