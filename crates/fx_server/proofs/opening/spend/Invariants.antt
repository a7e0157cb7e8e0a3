use Rattle.fx_server.proofs.Words.{length}
use Rattle.fx_server.proofs.opening.spend.Given as goal

abbrev pub decreases-loop-pass : goal.decreases-loop-pass
decreases-loop-pass l = length l.passes.items
