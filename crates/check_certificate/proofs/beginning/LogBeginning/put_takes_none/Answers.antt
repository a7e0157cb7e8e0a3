use Rattle.check_certificate.proofs.Words.{arith, Install}
use Rattle.check_certificate.proofs.Takers.{put_itself, put_takes_none}
use Rattle.check_certificate.proofs.beginning.LogBeginning.put_takes_none.Goals as goal

pub returns-then-eq-clause-sound : goal.returns-then-eq-clause-sound
returns-then-eq-clause-sound c = grind (arith, put_itself)

pub returns-then-is_no_other-clause-sound : goal.returns-then-is_no_other-clause-sound
returns-then-is_no_other-clause-sound c = λ _ operation slot. put_takes_none c.args.self.now c.args.l.now c.args.by.place operation c.args.by.access slot c.args.file
    (c.is_no_other.ensures.sound c.if-is_no_other.true c.args.self.now c.requires)

pub returns-then-is_put_early-clause-sound : goal.returns-then-is_put_early-clause-sound
returns-then-is_put_early-clause-sound c = λ _ operation slot. put_takes_none c.args.self.now c.args.l.now c.args.by.place operation c.args.by.access slot c.args.file
    (c.is_put_early.ensures.sound c.if-is_put_early.true)

pub returns-clause-sound : goal.returns-clause-sound
returns-clause-sound c = λ yes operation slot. c.is_other_time.ensures.sound yes operation (Install slot c.args.file)
