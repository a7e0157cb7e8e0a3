use Rattle.fx_order.proofs.{rules, List, subst, All, arith, length-map, all_asked, asked_of, Request, get_or-map, IsWithinLimits}
use Rattle.fx_order.proofs.submission.members.Goals as goal

limits_of : (requests : List Request) → All IsWithinLimits (all_asked requests) → All (λ (r : Request). IsWithinLimits (asked_of r)) requests
limits_of requests all = λ k d lt.
    let as_many = length-map requests asked_of in
    subst IsWithinLimits (get_or-map asked_of requests k d (asked_of d) lt) (all k (asked_of d) (omega arith))

pub returns-clause-limits : goal.returns-clause-limits
returns-clause-limits c = search (rules, limits_of, c.members.ensures.members, c.requires.within.run.each)
