use Rattle.fx_order.proofs.{length}
use Rattle.fx_order.proofs.chain.+are_canceled.Given as goal

abbrev pub decreases-are_canceled : goal.decreases-are_canceled
decreases-are_canceled l = length l.requests.now
