use Rattle.check_outcomes.proofs.{ℕ, ◌<◌, ◌≡◌, length, IsAtStart}
use Rattle.check_outcomes.proofs.state.start.Given as goal

abbrev pub invariant-loop-i : goal.invariant-loop-i
invariant-loop-i l = record {
  recorded : length l.recorded.items ≡ l.i;
  chains : length l.chains.items ≡ l.i;
  each : (k : ℕ) → k < l.i → IsAtStart l.submission l.recorded.items l.chains.items k;
}
