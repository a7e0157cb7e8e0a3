use Rattle.check_certificate.proofs.Takers.{no_other_by}
use Rattle.check_certificate.proofs.beginning.LogBeginning.is_before.Goals as goal

pub returns-in-Some-clause-sound : goal.returns-in-Some-clause-sound
returns-in-Some-clause-sound c = λ yes answered.
    no_other_by c.args.self.now c.args.l.now c.args.point (c.is_apart.ensures.sound yes c.args.self.now (c.in-Some.ensures.sound answered))
