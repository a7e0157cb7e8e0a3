use Rattle.fx_order.proofs.{length}
use Rattle.fx_order.proofs.submission.+are_chains_done.Given as goal

abbrev pub decreases-are_chains_done : goal.decreases-are_chains_done
decreases-are_chains_done l = length l.chains.now
