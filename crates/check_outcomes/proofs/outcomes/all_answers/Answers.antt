use Rattle.check_outcomes.proofs.{◌∙◌, ap, All-push, Completed, IsAnswerIn}
use Rattle.check_outcomes.proofs.AllReports.{is_answer}
use Rattle.check_outcomes.proofs.outcomes.all_answers.Goals as goal

pub loop-by-preserved : goal.loop-by-preserved
loop-by-preserved c =
    rw c.in_ok-push.ensures.items
    (All-push (IsAnswerIn c.args.submission.now c.args.slots.now c.args.place) c.loop-by.answers.items _ c.loop-by.invariant
    (λ submissions registrations number. is_answer ((rw c.in-Some.is at c.in_ok-possible.ensures) submissions registrations number)
    (rw c.in_ok-copy.ensures (rw (c.in-Some-answer_at.is, c.deref.ensures.value) at c.answer_at.ensures.inside))
    (ap (λ (d : Completed). d.place) c.in_ok-copy.ensures ∙ (rw c.in-Some-answer_at.is at c.answer_at.ensures.there))))
