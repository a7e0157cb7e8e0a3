use Rattle.check_outcomes.proofs.{All, IsPossibleIn}
use Rattle.check_outcomes.proofs.outcomes.all_confirmed.Given as goal

abbrev pub invariant-loop-by : goal.invariant-loop-by
invariant-loop-by l = All (IsPossibleIn l.submission l.slots) l.reports.items
