use Rattle.check_certificate.proofs.Words.{None, arith, sym, slot_count, Empties}
use Rattle.check_certificate.proofs.Showing.{evident_look}
use Rattle.check_certificate.proofs.beginning.LogBeginning.evidence_by_look.Goals as goal

pub returns-in-None-clause-sound : goal.returns-in-None-clause-sound
returns-in-None-clause-sound c =
    rw c.in-None.is (evident_look (slot_count c.args.self.now) c.args.slot None (omega arith) (Empties c.args.slot) (λ t may. sym may.1))
