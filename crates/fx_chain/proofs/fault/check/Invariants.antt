use Rattle.fx_chain.proofs.Words.{◌≡◌, take, drop, first_fault, fault_of, all_asked}
use Rattle.fx_chain.proofs.Counted.{AreCounts}
use Rattle.fx_chain.proofs.fault.check.Given as goal

-- the requests so far have no fault, and are counted
abbrev pub invariant-loop-i : goal.invariant-loop-i
invariant-loop-i l = record {
  faults : first_fault (all_asked (take l.i l.requests)) (all_asked (drop l.i l.requests)) ≡ fault_of (all_asked l.requests);
  counted : AreCounts (all_asked (take l.i l.requests)) l.count.chains l.count.members l.count.installs;
}
