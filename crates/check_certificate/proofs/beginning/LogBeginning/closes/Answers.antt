use Rattle.check_certificate.proofs.Forcing.{closes_forced}
use Rattle.check_certificate.proofs.beginning.LogBeginning.closes.Goals as goal

pub returns-clause-sound : goal.returns-clause-sound
returns-clause-sound c = closes_forced c.args.self.now c.args.close c.in_ok-_own._own c.args.slot c.in_ok-file.file _ c.ordered.ensures c.in_ok-file.ensures.sound
    c.in_ok-_own.ensures.sound
