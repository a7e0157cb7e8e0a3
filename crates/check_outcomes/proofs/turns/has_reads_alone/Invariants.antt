use Rattle.check_outcomes.proofs.{◌≡◌, ◌<◌, ℕ, true, slice_index_or, has_reads_at}
use Rattle.check_outcomes.proofs.turns.has_reads_alone.Given as goal

abbrev pub invariant-loop-i : goal.invariant-loop-i
invariant-loop-i l = (k : ℕ) → k < l.i → slice_index_or l.numbers.of_chain.items k 0 ≡ l.part → has_reads_at l.submission l.state k ≡ true
