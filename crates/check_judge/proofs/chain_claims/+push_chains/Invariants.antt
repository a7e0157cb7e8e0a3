use Rattle.check_judge.proofs.{length}
use Rattle.check_judge.proofs.chain_claims.+push_chains.Given as goal

abbrev pub decreases-push_chains : goal.decreases-push_chains
decreases-push_chains l = length l.chains.now
