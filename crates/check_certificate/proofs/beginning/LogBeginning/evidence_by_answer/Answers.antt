use Rattle.check_certificate.proofs.Words.{arith}
use Rattle.check_certificate.proofs.beginning.LogBeginning.evidence_by_answer.Goals as goal

pub returns-clause-sound : goal.returns-clause-sound
returns-clause-sound c = grind arith
