use Rattle.check_certificate.proofs.Words.{subst, sym, IsForced}
use Rattle.check_certificate.proofs.beginning.LogBeginning.left_later.Goals as goal

pub returns-then-answer-l-clause-sound : goal.returns-then-answer-l-clause-sound
returns-then-answer-l-clause-sound c = λ known.
    let there = subst (IsForced c.args.self.now) (sym c.ordered-there.ensures) (c.is_known.ensures.sound c.if-not-is_known.false c.args.self.now c.requires) in
    c.in_ok-sooner.ensures.sound known there

pub returns-clause-sound : goal.returns-clause-sound
returns-clause-sound c = λ known.
    let there = subst (IsForced c.args.self.now) (sym c.ordered-there.ensures) (c.is_known.ensures.sound c.if-not-is_known.false c.args.self.now c.requires) in
    c.in_ok-all.ensures.sound known (c.in_ok-second.ensures.sound c.in_ok-later.ensures.sound there)
