use Rattle.check_outcomes.proofs.{◌∙◌, sym, completed_of, PossibleAnswer, inside_at, completion_same}
use Rattle.check_outcomes.proofs.closed.is_answered.Goals as goal

pub returns-then-eq : goal.returns-then-eq
returns-then-eq c = λ _. inside_at (λ (a : PossibleAnswer). completed_of a.completion) c.args.answers.now c.loop-answer-test.true c.answer-item.is
    (completion_same c.answer-item.result.completion c.args.c.now (sym c.eq.ensures ∙ c.if-eq.true))
