use Rattle.check_certificate.proofs.Words.{arith}
use Rattle.check_certificate.proofs.Forcing.{cant_answer, outside}
use Rattle.check_certificate.proofs.beginning.LogBeginning.cant_answer.Goals as goal

pub returns-in-Never-clause-sound : goal.returns-in-Never-clause-sound
returns-in-Never-clause-sound c = grind (arith, cant_answer)

pub returns-in-Installs-clause-sound : goal.returns-in-Installs-clause-sound
returns-in-Installs-clause-sound c = grind (arith, outside)
