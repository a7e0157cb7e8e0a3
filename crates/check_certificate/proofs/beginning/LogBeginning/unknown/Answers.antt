use Rattle.check_certificate.proofs.Forcing.{some_weaker}
use Rattle.check_certificate.proofs.beginning.LogBeginning.unknown.Goals as goal

pub returns-clause-sound : goal.returns-clause-sound
returns-clause-sound c = some_weaker c.joined.result _ _
    (λ order joins first. let l = c.in_ok-l.ensures.sound first in joins (c.in_ok-placed.ensures.sound l) (c.in_ok-gone.ensures.sound l)) c.joined.ensures.sound
