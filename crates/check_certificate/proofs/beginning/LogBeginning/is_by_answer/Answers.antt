use Rattle.check_certificate.proofs.Takers.{failed_takes_none}
use Rattle.check_certificate.proofs.beginning.LogBeginning.is_by_answer.Goals as goal

pub returns-then-is_failed_at-clause-sound : goal.returns-then-is_failed_at-clause-sound
returns-then-is_failed_at-clause-sound c = λ _ own operation intent.
    let failed = c.is_failed_at.ensures.sound c.if-is_failed_at.true in
    failed_takes_none c.args.self.now c.args.l.now c.args.by.place operation c.args.by.access c.in-Some.answer failed.0 intent failed.1 failed.2 failed.3
