use Rattle.check_outcomes.proofs.AllReports.{answers_by}
use Rattle.check_outcomes.proofs.outcomes.answers_in.Goals as goal

pub returns-clause-all : goal.returns-clause-all
returns-clause-all c = λ yes. answers_by c.requires c.deref.ensures.value (c.in_ok-are_all.ensures yes)
