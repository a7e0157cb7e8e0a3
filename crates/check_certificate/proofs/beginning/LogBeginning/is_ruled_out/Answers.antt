use Rattle.check_certificate.proofs.Words.{◌≡◌, ◌∙◌, Some, subst, sym, TakesNone, IsRuledOut, WalkAim}
use Rattle.check_certificate.proofs.beginning.LogBeginning.is_ruled_out.Goals as goal

pub returns-in-Leaves-clause-sound : goal.returns-in-Leaves-clause-sound
returns-in-Leaves-clause-sound c = λ yes operation own same.
    let both : Some c.in-Some.own ≡ Some own = sym c.in-Some.is ∙ same in
    let one : c.in-Some.own ≡ own = cc in
    subst (λ (aim : WalkAim). IsRuledOut c.args.self.now aim c.args.by.place operation c.args.by.access own) (sym c.in-Leaves.is)
    (subst (TakesNone c.args.self.now c.in-Leaves.l c.args.by.place operation c.args.by.access) one (c.takes_none.ensures.sound yes operation))
