use Rattle.check_certificate.proofs.Forcing.{some_weaker}
use Rattle.check_certificate.proofs.beginning.LogBeginning.order_of.Goals as goal

pub returns-in_ok-landing-in-Lands-clause-sound : goal.returns-in_ok-landing-in-Lands-clause-sound
returns-in_ok-landing-in-Lands-clause-sound c = some_weaker c.lands.result _ _
    (λ order lands. lands (c.in_ok-landing-in-Lands.ensures.sound (c.in_ok-order_at-in-Lands.ensures.sound c.args.self.now c.requires))) c.lands.ensures.sound

pub returns-in_ok-landing-in-Misses-clause-sound : goal.returns-in_ok-landing-in-Misses-clause-sound
returns-in_ok-landing-in-Misses-clause-sound c = some_weaker c.misses.result _ _
    (λ order misses. misses (c.in_ok-landing-in-Misses.ensures.sound (c.in_ok-order_at-in-Misses.ensures.sound c.args.self.now c.requires))) c.misses.ensures.sound
