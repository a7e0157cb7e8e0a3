use Rattle.check_certificate.proofs.Words.{◌≡◌, ◌∙◌, sym, Some, subst, arith, IsForced, Gone, file_Decides, option_Decides, false≢true}
use Rattle.check_certificate.specs.declared.certificate.Point.TheVariants.{Access}
use Rattle.check_certificate.proofs.Forcing.{precedes_forced, strict_from}
use Rattle.check_certificate.proofs.beginning.LogBeginning.precedes.Goals as goal

pub returns-clause-sound : goal.returns-clause-sound
returns-clause-sound c = λ known.
    let own : c.in_ok-file.own ≡ c.in_ok-slot.slot = omega arith in
    let there : IsForced c.args.self.now (strict_from (Access c.args.answer c.args.access) (Gone c.in_ok-file.file c.in_ok-file.own)) =
    subst (IsForced c.args.self.now) c.in_ok-file.ensures.sound known in
    subst (IsForced c.args.self.now) (sym c.ordered.ensures)
    (precedes_forced c.args.self.now c.args.call c.args.answer c.args.access c.in_ok-slot.slot c.in_ok-evidence.evidence c.in_ok-slot.left c.in_ok-file.file
    c.in_ok-evidence.ensures.sound (sym c.in_ok-slot.ensures)
    (λ same. false≢true (sym c.if-eq.false ∙ (c.eq.ensures ∙ (option_Decides file_Decides c.in_ok-slot.left (Some c.in_ok-file.file)).1 same)))
    (subst (λ s. IsForced c.args.self.now (strict_from (Access c.args.answer c.args.access) (Gone c.in_ok-file.file s))) own there))
