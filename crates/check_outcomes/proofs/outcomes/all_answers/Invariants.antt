use Rattle.check_outcomes.proofs.{All, IsAnswerIn}
use Rattle.check_outcomes.proofs.outcomes.all_answers.Given as goal

abbrev pub invariant-loop-by : goal.invariant-loop-by
invariant-loop-by l = All (IsAnswerIn l.submission l.slots l.place) l.answers.items
