use Rattle.check_certificate.proofs.Words.{◌∙◌, sym, slot_count, ECANCELED, ENOMEM, completed_of, asked_of, false≢true}
use Rattle.check_certificate.proofs.Impossible.{error_Decides}
use Rattle.check_certificate.proofs.Showing.{evident_member}
use Rattle.check_certificate.proofs.beginning.LogBeginning.evidence_by_member.Goals as goal

pub returns-clause-sound : goal.returns-clause-sound
returns-clause-sound c = rw c.evidence_of.ensures (evident_member c.args.self.now.catalogue.now (slot_count c.args.self.now) (completed_of c.args.c.now)
    (asked_of c.args.request.now) c.args.access c.in_ok-intent.intent c.args.self.now.is_catalogue c.in_ok-intent.ensures.sound
    (λ so. false≢true (sym c.if-is_error.false ∙ (c.is_error.ensures ∙ (error_Decides (completed_of c.args.c.now) ECANCELED).1 so)))
    (λ so. false≢true (sym c.if-is_error-2.false ∙ (c.is_error-else-is_error.ensures ∙ (error_Decides (completed_of c.args.c.now) ENOMEM).1 so))))

pub returns-then-is_impossible-clause-sound : goal.returns-then-is_impossible-clause-sound
returns-then-is_impossible-clause-sound c = λ accesses done.
    absurd ((rw c.args.self.now.is_size at (c.is_impossible.ensures.sound c.if-is_impossible.true c.args.self.now.is_catalogue)) accesses done)
