use Rattle.check_outcomes.proofs.{◌+◌, ◌*◌, length}
use Rattle.check_outcomes.proofs.submission.+settling.Given as goal

abbrev pub decreases-settle : goal.decreases-settle
decreases-settle l = 2 * length l.requests.now

abbrev pub decreases-go_on : goal.decreases-go_on
decreases-go_on l = 2 * length l.later.now + 1
