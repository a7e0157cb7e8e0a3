use Rattle.fx_ring.proofs.Words.{◌≡◌, take, sum_by, operation_of, weight_of}
use Rattle.fx_ring.proofs.outcome.weight_of_all.Given as goal

abbrev pub invariant-loop-request : goal.invariant-loop-request
invariant-loop-request l = l.weight ≡ sum_by (λ r. weight_of (operation_of r.op)) (take l.request-index l.requests)
