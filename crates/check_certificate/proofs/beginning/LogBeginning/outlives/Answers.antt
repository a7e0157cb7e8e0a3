use Rattle.check_certificate.proofs.Words.{◌≡◌, ◌∙◌, sym, subst, rules, arith, common_steps, IsForced, Put, Gone, file_Decides, false≢true}
use Rattle.check_certificate.proofs.Forcing.{outlives_forced, strict_from}
use Rattle.check_certificate.proofs.beginning.LogBeginning.outlives.Goals as goal

pub returns-clause-sound : goal.returns-clause-sound
returns-clause-sound c = λ known there.
    let same : c.in_ok-same.same ≡ c.in_ok-other.other = first_of (search rules, grind (arith, common_steps)) in
    let own : c.in_ok-same.own ≡ c.in_ok-other.other = first_of (search rules, grind (arith, common_steps)) in
    let at : c.in_ok-same.at ≡ c.in_ok-other.slot = omega arith in
    let later : IsForced c.args.self.now (strict_from (Put c.in_ok-other.other) (Gone c.in_ok-other.file c.in_ok-other.slot)) =
    subst (IsForced c.args.self.now) c.in_ok-other.ensures.sound known in
    let placed : IsForced c.args.self.now (strict_from (Put c.in_ok-same.same) (Gone c.in_ok-same.own c.in_ok-same.at)) =
    subst (IsForced c.args.self.now) c.in_ok-same.ensures.sound there in
    subst (IsForced c.args.self.now) (sym c.ordered.ensures)
    (outlives_forced c.args.self.now c.in_ok-other.slot c.in_ok-_call._call c.in_ok-other.file c.in_ok-other.other c.in_ok-_call.ensures.sound
    (λ alike. false≢true (sym c.if-eq.false ∙ (c.eq.ensures ∙ (file_Decides c.in_ok-other.other c.in_ok-other.file).1 alike))) later
    (grind arith))
