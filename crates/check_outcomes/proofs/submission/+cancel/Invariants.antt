use Rattle.check_outcomes.proofs.{length}
use Rattle.check_outcomes.proofs.submission.+cancel.Given as goal

abbrev pub decreases-cancel : goal.decreases-cancel
decreases-cancel l = length l.requests.now
