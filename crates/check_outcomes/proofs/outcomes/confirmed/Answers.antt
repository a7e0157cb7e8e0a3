use Rattle.check_outcomes.proofs.{◌∙◌}
use Rattle.check_outcomes.proofs.AllReports.{is_possible, same_report}
use Rattle.check_outcomes.proofs.outcomes.confirmed.Goals as goal

pub returns : goal.returns
returns c = λ submissions registrations number. is_possible ((rw c.in-Some.is at c.in_ok-left.ensures) submissions registrations number)
    (same_report _ _ ((rw c.in-Some-2.is at c.in_ok-closes.ensures.files) ∙ c.deref.ensures.value) (rw c.in-Some-2.is at c.in_ok-closes.ensures.room))
    (rw c.in-Some-2.is at c.in_ok-closes.ensures.entries)
