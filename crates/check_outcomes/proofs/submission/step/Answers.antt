use Rattle.check_outcomes.proofs.{◌∙◌, sym, ap, refl, all_asked, arith, nil_from_length, first_is, steps_more, steps_over}
use Rattle.check_outcomes.proofs.Viewing.{steps_on}
use Rattle.check_outcomes.proofs.submission.step.Goals as goal

pub returns-in_default : goal.returns-in_default
returns-in_default c =
    steps_over (sym c.left.ensures.left ∙ ap all_asked (nil_from_length c.left.result.now (omega (arith, c.in_default.len_below))))

pub returns-then-count_of-made : goal.returns-then-count_of-made
returns-then-count_of-made c =
    steps_more (sym c.left.ensures.left ∙ ap all_asked (first_is c.left.result.now c.request-item.result c.in-len1-up.len_at_least c.request-item.is))
    (λ same. c.if-count_of-made.true (c.count_of.ensures ∙ same)) refl refl

pub returns : goal.returns
returns c =
    steps_on (sym c.left.ensures.left ∙ ap all_asked (first_is c.left.result.now c.request-item.result c.in-len1-up.len_at_least c.request-item.is))
    (sym c.count_of.ensures ∙ c.if-count_of-made.false) (rw c.moved-here.ensures at c.in_ok-passed.ensures) refl refl
