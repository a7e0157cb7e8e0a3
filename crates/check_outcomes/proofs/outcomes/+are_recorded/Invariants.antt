use Rattle.check_outcomes.proofs.{length}
use Rattle.check_outcomes.proofs.outcomes.+are_recorded.Given as goal

abbrev pub decreases-are_recorded : goal.decreases-are_recorded
decreases-are_recorded l = length l.answers.now
