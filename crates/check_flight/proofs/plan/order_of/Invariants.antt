use Rattle.check_flight.proofs.{◌≡◌, take, accesses_of_chain}
use Rattle.check_flight.proofs.plan.order_of.Given as goal

abbrev pub invariant-loop-access : goal.invariant-loop-access
invariant-loop-access l = accesses_of_chain 1 l.order.items ≡ take l.access-index l.accesses
