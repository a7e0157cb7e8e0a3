use Rattle.fx_chain.proofs.Words.{take, all_asked}
use Rattle.fx_chain.proofs.Runs.{AllLink}
use Rattle.fx_chain.proofs.chain.first_chain_len.Given as goal

-- the requests so far all link
abbrev pub invariant-loop-i : goal.invariant-loop-i
invariant-loop-i l = AllLink (all_asked (take l.i l.requests))
