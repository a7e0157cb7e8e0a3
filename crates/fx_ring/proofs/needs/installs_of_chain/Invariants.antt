use Rattle.fx_ring.proofs.Words.{◌≡◌, take, sum_by, operation_of, installs_of}
use Rattle.fx_ring.proofs.needs.installs_of_chain.Given as goal

abbrev pub invariant-loop-member : goal.invariant-loop-member
invariant-loop-member l = l.installs ≡ sum_by (λ r. installs_of (operation_of r.op)) (take l.member-index l.members)
