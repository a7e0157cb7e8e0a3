use Rattle.check_outcomes.proofs.{◌∙◌, sym, ap, refl, all_completed, first_is, cut_recorded}
use Rattle.check_outcomes.proofs.outcomes.+are_recorded.Goals as goal

pub returns-then-are_same : goal.returns-then-are_same
returns-then-are_same t c = λ yes.
    let answers = c.args.answers.now in
    cut_recorded c.args.completions.now (c.len-2.ensures ∙ sym c.len-then-are_same.ensures)
    (first_is answers c.own-item.result c.in-len1-up.len_at_least c.own-item.is)
    (c.if-are_same.ensures refl ∙ ap all_completed c.deref.ensures.value)
    (c.are_recorded.ensures yes)
