use Rattle.check_certificate.proofs.Words.{arith}
use Rattle.check_certificate.proofs.Forcing.{calls_forced}
use Rattle.check_certificate.proofs.beginning.LogBeginning.calls.Goals as goal

pub returns-clause-sound : goal.returns-clause-sound
returns-clause-sound c = grind (arith, calls_forced)
