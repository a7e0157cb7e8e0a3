use Rattle.fx_plain.proofs.Words.{vec_len}
use Rattle.fx_plain.proofs.node_list.NodeList.spend.Given as goal

abbrev pub decreases-loop-node : goal.decreases-loop-node
decreases-loop-node l = vec_len l.written
