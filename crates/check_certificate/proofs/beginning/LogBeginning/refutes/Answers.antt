use Rattle.check_certificate.proofs.Supposing.{refuted}
use Rattle.check_certificate.proofs.beginning.LogBeginning.refutes.Goals as goal

pub returns-then-is_end-clause-sound : goal.returns-then-is_end-clause-sound
returns-then-is_end-clause-sound c = λ _.
    refuted c.args.self.now (c.is_end.ensures.sound c.if-is_end.true c.args.self.now (rw c.in-Some.is at c.in_ok-next.ensures.sound))
