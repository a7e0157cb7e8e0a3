use Rattle.check_certificate.proofs.Forcing.{existed_forced}
use Rattle.check_certificate.proofs.beginning.LogBeginning.existed.Goals as goal

pub returns-clause-sound : goal.returns-clause-sound
returns-clause-sound c = existed_forced c.args.self.now c.args.close c.in_ok-_own._own c.in_ok-file.file _ c.ordered.ensures c.in_ok-file.ensures.sound c.in_ok-_own.ensures.sound
