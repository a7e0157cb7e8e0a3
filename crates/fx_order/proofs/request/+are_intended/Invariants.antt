use Rattle.fx_order.proofs.{length}
use Rattle.fx_order.proofs.request.+are_intended.Given as goal

abbrev pub decreases-are_intended : goal.decreases-are_intended
decreases-are_intended l = length l.accesses.now
