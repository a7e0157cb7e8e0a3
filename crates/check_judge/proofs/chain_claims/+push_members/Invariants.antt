use Rattle.check_judge.proofs.{length}
use Rattle.check_judge.proofs.chain_claims.+push_members.Given as goal

abbrev pub decreases-push_members : goal.decreases-push_members
decreases-push_members l = length l.requests.now
