use Rattle.check_judge.proofs.{length}
use Rattle.check_judge.proofs.places.+push_lists.Given as goal

abbrev pub decreases-push_lists : goal.decreases-push_lists
decreases-push_lists l = length l.chains.now
