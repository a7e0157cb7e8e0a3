use Rattle.check_outcomes.proofs.{length}
use Rattle.check_outcomes.proofs.way_report.+push_copies.Given as goal

abbrev pub decreases-push_copies : goal.decreases-push_copies
decreases-push_copies l = length l.more.now
