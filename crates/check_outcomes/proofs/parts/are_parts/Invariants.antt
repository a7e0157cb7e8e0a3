use Rattle.check_outcomes.proofs.{◌<◌, ℕ, IsInPart}
use Rattle.check_outcomes.proofs.parts.are_parts.Given as goal

abbrev pub invariant-loop-i : goal.invariant-loop-i
invariant-loop-i l = (k : ℕ) → k < l.i → IsInPart l.submission l.slots l.numbers k
