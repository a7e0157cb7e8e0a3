use Rattle.fx_order.proofs.{length}
use Rattle.fx_order.proofs.chain.+is_chain_done.Given as goal

abbrev pub decreases-is_chain_done : goal.decreases-is_chain_done
decreases-is_chain_done l = length l.requests.now
