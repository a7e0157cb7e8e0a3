use Rattle.check_texts.proofs.{completed_of, Said, sym, ◌∙◌}
use Rattle.check_outcomes.proofs.Lists.{inside_at}
use Rattle.check_outcomes.proofs.Viewing.{completion_same}
use Rattle.check_texts.proofs.request_answers.has_answer.Goals as goal

pub returns-then-eq : goal.returns-then-eq
returns-then-eq c = λ _. inside_at (λ (s : Said). completed_of s.completion) c.args.answers.now c.loop-said-test.true c.said-item.is
    (completion_same c.said-item.result.completion c.args.c.now (sym c.eq.ensures ∙ c.if-eq.true))
