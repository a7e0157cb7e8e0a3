use Rattle.check_judge.proofs.{length}
use Rattle.check_judge.proofs.places.+push_chain.Given as goal

abbrev pub decreases-push_chain : goal.decreases-push_chain
decreases-push_chain l = length l.requests.now
