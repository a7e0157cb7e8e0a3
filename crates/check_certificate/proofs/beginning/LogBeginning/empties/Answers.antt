use Rattle.check_certificate.proofs.Words.{◌≡◌, ◌∙◌, sym, Some, subst, rules, arith, common_steps, IsForced, file_Decides, option_Decides, false≢true}
use Rattle.check_certificate.specs.declared.certificate.Point.TheVariants.{Access}
use Rattle.check_certificate.proofs.Forcing.{empties_forced}
use Rattle.check_certificate.proofs.beginning.LogBeginning.empties.Goals as goal

pub returns-clause-sound : goal.returns-clause-sound
returns-clause-sound c = λ known.
    let to : c.args.installed.now.to ≡ Access c.args.answer c.args.access = first_of (search rules, grind (arith, common_steps)) in
    subst (IsForced c.args.self.now) (sym c.not_after.ensures)
    (empties_forced c.args.self.now c.args.call c.args.answer c.args.access c.in_ok-slot.slot c.in_ok-evidence.evidence c.in_ok-slot.left c.in_ok-file.file
    c.in_ok-evidence.ensures.sound (sym c.in_ok-slot.ensures)
    (λ same. false≢true (sym c.if-eq.false ∙ (c.eq.ensures ∙ (option_Decides file_Decides c.in_ok-slot.left (Some c.in_ok-file.file)).1 same)))
    c.args.installed.now c.in_ok-file.ensures.sound to known)
