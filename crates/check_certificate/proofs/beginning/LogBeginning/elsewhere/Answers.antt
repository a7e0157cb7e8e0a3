use Rattle.check_certificate.proofs.Words.{arith, subst, sym, IsForced}
use Rattle.check_certificate.proofs.Holders.{elsewhere_forced}
use Rattle.check_certificate.proofs.beginning.LogBeginning.elsewhere.Goals as goal

pub returns-clause-sound : goal.returns-clause-sound
returns-clause-sound c = subst (IsForced c.args.self.now) (sym c.not_after.ensures)
    (elsewhere_forced c.args.self.now c.args.call c.args.answer c.args.access c.in-Installs.own c.args.slot c.in_ok-_call._call c.args.event
    c.in-Installs.file (rw c.in-Installs.is at c.in_ok-evidence.ensures.sound) c.in_ok-_call.ensures.sound (λ same. omega (arith, c.if-own-slot.false, same)))
