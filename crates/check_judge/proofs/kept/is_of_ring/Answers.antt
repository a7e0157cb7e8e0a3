use Rattle.check_judge.proofs.{arith}
use Rattle.check_judge.proofs.kept.is_of_ring.Goals as goal

pub returns-clause-of_ring : goal.returns-clause-of_ring
returns-clause-of_ring c =
    let counted = c.is_counted.ensures.counted c.args.catalogue.now in
    let below = c.if-from-len.false in
    let size = c.len.ensures.value in
    let from = c.from.ensures in (
      (λ yes. record { inside = omega arith; counted = counted.0 yes }),
      (λ is. counted.1 is.counted),
    )
