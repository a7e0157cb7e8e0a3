use Rattle.check_certificate.proofs.Words.{◌∙◌, arith, sym, given_of}
use Rattle.check_certificate.proofs.Walks.{answer_here, answer_later, answer_none}
use Rattle.check_certificate.specs.Holds.{answer_of}
use Rattle.check_certificate.proofs.beginning.LogBeginning.answer_of.Goals as goal

pub loop-at-preserved : goal.loop-at-preserved
loop-at-preserved c = sym (answer_later (given_of c.args.self.now) c.args.place c.loop-at.at (omega (arith, c.loop-at-test.true))
    (sym c.is_answered_at.ensures.exact ∙ c.if-is_answered_at.false)) ∙ c.loop-at.invariant

pub returns-then-is_answered_at : goal.returns-then-is_answered_at
unfolding answer_of
returns-then-is_answered_at c = sym (answer_here (given_of c.args.self.now) c.args.place c.loop-at.at (omega (arith, c.loop-at-test.true))
    (sym c.is_answered_at.ensures.exact ∙ c.if-is_answered_at.true)) ∙ c.loop-at.invariant

pub returns : goal.returns
unfolding answer_of
returns c = sym (answer_none (given_of c.args.self.now) c.args.place c.loop-at.at (omega (arith, c.loop-at-test.false))) ∙ c.loop-at.invariant
