use Rattle.fx_order.proofs.{length}
use Rattle.fx_order.proofs.request.+last_finding.Given as goal

abbrev pub decreases-last_finding : goal.decreases-last_finding
decreases-last_finding l = length l.accesses.now
