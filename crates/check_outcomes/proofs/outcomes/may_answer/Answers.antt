use Rattle.check_outcomes.proofs.{IfOk-weaker, refl}
use Rattle.check_outcomes.proofs.outcomes.may_answer.Goals as goal

pub returns-clause-all : goal.returns-clause-all
returns-clause-all c = IfOk-weaker c.answers_in.result _ _ (λ found all yes registrations. all yes c.args.submissions registrations refl)
    c.answers_in.ensures.all
