use Rattle.check_certificate.proofs.Words.{arith}
use Rattle.check_certificate.proofs.Takers.{lands_forced}
use Rattle.check_certificate.proofs.beginning.LogBeginning.lands.Goals as goal

pub returns-clause-sound : goal.returns-clause-sound
returns-clause-sound c = grind (arith, lands_forced)
