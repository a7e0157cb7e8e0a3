use Rattle.check_certificate.proofs.Words.{arith}
use Rattle.check_certificate.proofs.Forcing.{differs_forced}
use Rattle.check_certificate.proofs.beginning.LogBeginning.differs.Goals as goal

pub returns-clause-sound : goal.returns-clause-sound
returns-clause-sound c = λ known.
    let first = c.in_ok-id.ensures.sound in
    let second = c.in_ok-jd.ensures.sound in
    let forced = differs_forced c.args.self.now c.args.call c.in_ok-answer.answer c.in_ok-answer.access c.args.other c.in_ok-later.later c.in_ok-later.number
    c.in_ok-_one._one c.in_ok-_two._two c.in_ok-id.id c.in_ok-jd.jd first.0 second.0 c.in_ok-_one.ensures.sound c.in_ok-_two.ensures.sound first.1 first.2 second.1 second.2
    (λ same. omega (arith, c.if-id-jd.false, same)) c.args.order.now c.in_ok-answer.ensures.sound c.in_ok-later.ensures.sound known in grind arith
