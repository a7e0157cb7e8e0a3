use Rattle.fx_chain.proofs.Words.{length}
use Rattle.fx_chain.proofs.entries.+list_intent.Given as goal

abbrev pub decreases-list_intent : goal.decreases-list_intent
decreases-list_intent l = length l.list.now
