use Rattle.check_flight.proofs.{IsWithinLimits, all_asked, arith, asked_of, get_or-map, length-map, subst}
use Rattle.fx_chain.proofs.Accepted.{accepted-each}
use Rattle.check_flight.proofs.judged.ChainCall.of.Goals as goal

pub invariant_of-result-clause-limits : goal.invariant_of-result-clause-limits
invariant_of-result-clause-limits c = λ k d few.
    let requests = c.args.requests.now in
    let as_many = length-map requests asked_of in
    subst IsWithinLimits (get_or-map asked_of requests k d (asked_of d) few)
    (accepted-each (all_asked requests) c.in-Ok.ensures.accepted k (asked_of d) (omega arith))
