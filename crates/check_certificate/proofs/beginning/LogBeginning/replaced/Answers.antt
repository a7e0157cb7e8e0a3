use Rattle.check_certificate.proofs.Forcing.{some_weaker}
use Rattle.check_certificate.proofs.beginning.LogBeginning.replaced.Goals as goal

pub returns-clause-sound : goal.returns-clause-sound
returns-clause-sound c =
    let installed = c.in_ok-installed.ensures.sound (c.in_ok-first.ensures.sound c.in_ok-installs.ensures.sound c.in_ok-next.ensures.sound) c.in_ok-begins.ensures.sound in
    some_weaker c.joined-4.result _ _
    (λ order joins. joins (c.in_ok-second.ensures.sound (c.in_ok-gone.ensures.sound installed) c.in_ok-ends.ensures.sound) c.in_ok-past.ensures.sound) c.joined-4.ensures.sound
