use Rattle.check_certificate.proofs.Words.{◌≡◌, ◌∙◌, sym, subst, rules, arith, common_steps, IsForced, Put, Gone, file_Decides, false≢true}
use Rattle.check_certificate.proofs.Forcing.{displaces_forced, strict_from}
use Rattle.check_certificate.proofs.beginning.LogBeginning.displaces.Goals as goal

pub returns-clause-sound : goal.returns-clause-sound
returns-clause-sound c = λ known there.
    let to : c.args.installed.now.to ≡ Put c.in_ok-other.other = first_of (search rules, grind (arith, common_steps)) in
    let own : c.in_ok-other.own ≡ c.in_ok-other.other = first_of (search rules, grind (arith, common_steps)) in
    let placed : IsForced c.args.self.now (strict_from (Put c.in_ok-other.other) (Gone c.in_ok-other.own c.in_ok-other.slot)) =
    subst (IsForced c.args.self.now) c.in_ok-other.ensures.sound there in
    subst (IsForced c.args.self.now) (sym c.not_after.ensures)
    (displaces_forced c.args.self.now c.in_ok-other.slot c.in_ok-_call._call c.in_ok-file.file c.in_ok-other.other c.in_ok-_call.ensures.sound
    (λ same. false≢true (sym c.if-eq.false ∙ (c.eq.ensures ∙ (file_Decides c.in_ok-other.other c.in_ok-file.file).1 same)))
    c.args.installed.now c.in_ok-file.ensures.sound to known
    (subst (λ f. IsForced c.args.self.now (strict_from (Put c.in_ok-other.other) (Gone f c.in_ok-other.slot))) own placed))
