use Rattle.check_outcomes.proofs.{ℕ, ◌<◌, slice_index_or, IsRecordedAt, PlayState}
use Rattle.check_outcomes.proofs.outcomes.are_all_recorded.Given as goal

abbrev pub invariant-loop-state : goal.invariant-loop-state
invariant-loop-state l = (k : ℕ) (d : PlayState) → k < l.state-index → IsRecordedAt l.submission l.reports (slice_index_or l.states k d)
