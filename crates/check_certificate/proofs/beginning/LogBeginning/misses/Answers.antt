use Rattle.check_certificate.proofs.Words.{arith, subst, sym, IsForced}
use Rattle.check_certificate.proofs.Takers.{misses_forced}
use Rattle.check_certificate.proofs.beginning.LogBeginning.misses.Goals as goal

pub returns-clause-sound : goal.returns-clause-sound
returns-clause-sound c = λ installed. subst (IsForced c.args.self.now) (sym c.not_after.ensures)
    (misses_forced c.args.self.now c.args.l c.in_ok-_call._call (omega (arith, c.if-l-self.false)) (c.is_walked.ensures.sound c.if-not-is_walked.false)
    c.in_ok-_call.ensures.sound installed)
