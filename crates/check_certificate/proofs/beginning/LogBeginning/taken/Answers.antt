use Rattle.check_certificate.proofs.Words.{◌≡◌, arith, rules, Gone, common_steps}
use Rattle.check_certificate.proofs.Takers.{not_before, not_later, taken_then}
use Rattle.check_certificate.proofs.beginning.LogBeginning.taken.Goals as goal

pub returns-clause-sound : goal.returns-clause-sound
returns-clause-sound c = λ there gone.
    let from : c.args.gone.now.from ≡ Gone c.in_ok-l.l.file c.in_ok-l.l.slot = first_of (search rules, grind (arith, common_steps)) in
    grind (arith, taken_then, not_before, not_later, c.if-l-self.false, c.is_walked.ensures.sound c.if-not-is_walked.false, c.in_ok-until.ensures.sound, c.in_ok-l.ensures.sound.1)
