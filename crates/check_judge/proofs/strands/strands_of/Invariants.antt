use Rattle.check_judge.proofs.StrandClaims.{SoFar}
use Rattle.check_judge.proofs.strands.strands_of.Given as goal

abbrev pub invariant-loop-i : goal.invariant-loop-i
invariant-loop-i l = SoFar l.cells l.chains l.i l.strands.items
