use Rattle.check_outcomes.proofs.{IfSome, IsTurnOfPart}
use Rattle.check_outcomes.proofs.turns.part_at.Given as goal

abbrev pub invariant-loop-i : goal.invariant-loop-i
invariant-loop-i l = IfSome l.turn (IsTurnOfPart l.submission l.numbers l.state)
