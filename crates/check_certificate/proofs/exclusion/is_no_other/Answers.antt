use Rattle.check_certificate.proofs.Words.{arith}
use Rattle.check_certificate.proofs.Takers.{no_other_by, the_taker}
use Rattle.check_certificate.proofs.exclusion.is_no_other.Goals as goal

pub returns-then-eq-clause-sound : goal.returns-then-eq-clause-sound
returns-then-eq-clause-sound c = grind (arith, the_taker)

pub returns-clause-sound : goal.returns-clause-sound
returns-clause-sound c = λ yes b known. no_other_by b c.args.l.now c.args.point (c.are_apart.ensures.sound yes b known)
