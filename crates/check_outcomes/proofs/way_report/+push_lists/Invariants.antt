use Rattle.check_outcomes.proofs.{length}
use Rattle.check_outcomes.proofs.way_report.+push_lists.Given as goal

abbrev pub decreases-push_lists : goal.decreases-push_lists
decreases-push_lists l = length l.more.now
