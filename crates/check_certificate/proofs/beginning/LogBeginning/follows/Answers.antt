use Rattle.check_certificate.proofs.Forcing.{follows_forced}
use Rattle.check_certificate.proofs.beginning.LogBeginning.follows.Goals as goal

pub returns-in_ok-_own-in-Finds-clause-sound : goal.returns-in_ok-_own-in-Finds-clause-sound
returns-in_ok-_own-in-Finds-clause-sound c = follows_forced c.args.self.now c.args.call c.args.answer 0 c.in-Finds._slot c.in-Finds.file c.in_ok-evidence.evidence _
    c.in_ok-_own-in-Finds._own c.ordered.ensures c.in-Finds.is c.in_ok-evidence.ensures.sound c.in_ok-_own-in-Finds.ensures.sound
