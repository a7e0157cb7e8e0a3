use Rattle.check_certificate.proofs.Words.{◌≡◌, ℕ, arith, subst, IsCallOf}
use Rattle.check_certificate.proofs.Takers.{later_takes_none}
use Rattle.check_certificate.proofs.beginning.LogBeginning.is_other_time.Goals as goal

pub returns-then-is_known-clause-sound : goal.returns-then-is_known-clause-sound
returns-then-is_known-clause-sound c = λ _ operation intent.
    let event = c.in-Some.ensures.sound in
    let same : c.in-Some.id ≡ c.args.by.place.submission = omega arith in
    later_takes_none c.args.self.now c.args.l.now c.args.by.place operation c.args.by.access c.args.by.call event.0 intent event.1
    (subst (λ (i : ℕ). IsCallOf i event.0) same event.2) (c.is_known.ensures.sound c.if-is_known.true c.args.self.now c.requires)

pub returns-clause-sound : goal.returns-clause-sound
returns-clause-sound c = λ yes operation intent.
    let event = c.in-Some.ensures.sound in
    let same : c.in-Some.id ≡ c.args.by.place.submission = omega arith in
    c.is_by_answer.ensures.sound yes (event.0, event.1, subst (λ (i : ℕ). IsCallOf i event.0) same event.2) operation intent
