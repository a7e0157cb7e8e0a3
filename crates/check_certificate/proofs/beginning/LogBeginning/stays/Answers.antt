use Rattle.check_certificate.proofs.Words.{arith}
use Rattle.check_certificate.proofs.Takers.{stays_forced}
use Rattle.check_certificate.proofs.beginning.LogBeginning.stays.Goals as goal

pub returns-clause-sound : goal.returns-clause-sound
returns-clause-sound c = grind (arith, stays_forced, c.ordered.ensures, c.if-l-self.false, c.is_walked.ensures.sound c.if-not-is_walked.false)
