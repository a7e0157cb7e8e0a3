use Rattle.check_certificate.proofs.Words.{◌≡◌, arith}
use Rattle.check_certificate.proofs.Takers.{first_takes_none}
use Rattle.check_certificate.proofs.beginning.LogBeginning.is_first_ruled_out.Goals as goal

pub returns-then-is_no_other-clause-sound : goal.returns-then-is_no_other-clause-sound
returns-then-is_no_other-clause-sound c = λ _ own operation intent.
    let answered = c.is_answered_at.ensures.sound c.if-not-is_answered_at.false in
    let member : c.args.by.place.member ≡ 1 = omega arith in
    first_takes_none c.args.self.now c.args.l.now c.args.by.place operation c.args.by.access c.args.by.call c.args.answer c.in-Some._evidence own.0 answered.0 intent
    c.in-Some.ensures.sound own.1 own.2 answered.1 answered.2 member (c.is_no_other.ensures.sound c.if-is_no_other.true c.args.self.now c.requires)

pub returns-clause-sound : goal.returns-clause-sound
returns-clause-sound c = λ yes own operation intent.
    let answered = c.is_answered_at.ensures.sound c.if-not-is_answered_at.false in
    let member : c.args.by.place.member ≡ 1 = omega arith in
    first_takes_none c.args.self.now c.args.l.now c.args.by.place operation c.args.by.access c.args.by.call c.args.answer c.in-Some._evidence own.0 answered.0 intent
    c.in-Some.ensures.sound own.1 own.2 answered.1 answered.2 member (c.is_early.ensures.sound yes)
