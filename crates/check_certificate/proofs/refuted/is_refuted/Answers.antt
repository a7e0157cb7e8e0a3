use Rattle.check_certificate.proofs.Words.{arith}
use Rattle.check_certificate.proofs.refuted.is_refuted.Goals as goal

pub returns-clause-sound : goal.returns-clause-sound
returns-clause-sound c = λ so submissions registrations is.
    grind (arith, c.as_slice.ensures.value, c.are_of_no_call.ensures, c.if-not-are_of_no_call.false, c.in_ok-yes.ensures.sound so submissions registrations, c.requires, c.in_ok-log.ensures.0 c.if-not-log.false)

pub returns-clause-exact : goal.returns-clause-exact
returns-clause-exact c = grind arith
