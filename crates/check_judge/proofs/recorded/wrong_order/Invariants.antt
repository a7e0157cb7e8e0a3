use Rattle.std.specs.Bool.{⊤}
use Rattle.check_judge.proofs.recorded.wrong_order.Given as goal

abbrev pub invariant-loop-i : goal.invariant-loop-i
invariant-loop-i l = ⊤
