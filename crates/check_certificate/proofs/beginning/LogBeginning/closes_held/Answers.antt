use Rattle.check_certificate.proofs.Words.{◌≡◌, ◌∙◌, arith, rules, subst, sym, common_steps, IsForced, happening_of, false≢true, take-map}
use Rattle.check_certificate.proofs.Forcing.{closes_held}
use Rattle.check_certificate.proofs.beginning.LogBeginning.closes_held.Goals as goal

pub returns-clause-sound : goal.returns-clause-sound
returns-clause-sound c =
    let same : c.in_ok-look.found ≡ c.in_ok-file.file = first_of (search rules, grind (arith, common_steps)) in
    subst (IsForced c.args.self.now) (sym c.ordered.ensures)
    (closes_held c.args.self.now c.args.answer c.args.close c.in_ok-look.look c.in_ok-file.file (rw same at c.in_ok-look.ensures.sound) c.in_ok-file.ensures.sound
    (omega arith) (λ inside. false≢true (sym c.if-was_freed.false ∙ c.was_freed.ensures.sound (rw (take-map happening_of c.args.close c.args.self.now.events.now) at inside))))
