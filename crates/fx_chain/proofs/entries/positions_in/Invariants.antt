use Rattle.fx_chain.proofs.Words.{◌≡◌, take, positions_from}
use Rattle.fx_chain.proofs.entries.positions_in.Given as goal

abbrev pub invariant-loop-i : goal.invariant-loop-i
invariant-loop-i l = l.positions.items ≡ positions_from 0 (take l.i l.list)
