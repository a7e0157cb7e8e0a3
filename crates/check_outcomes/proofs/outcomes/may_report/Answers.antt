use Rattle.check_outcomes.proofs.{IfOk-weaker, refl}
use Rattle.check_outcomes.proofs.outcomes.may_report.Goals as goal

pub returns-clause-each : goal.returns-clause-each
returns-clause-each c = IfOk-weaker c.reports_in.result _ _
    (λ found each registrations k d lt. each k d lt c.args.submissions registrations refl) c.reports_in.ensures.each

pub returns-clause-ends : goal.returns-clause-ends
returns-clause-ends c = IfOk-weaker c.reports_in.result _ _ (λ found ends yes registrations. ends yes c.args.submissions registrations refl)
    c.reports_in.ensures.ends

pub returns-clause-all : goal.returns-clause-all
returns-clause-all c = IfOk-weaker c.reports_in.result _ _ (λ found all yes with_reports registrations. all yes with_reports c.args.submissions registrations refl)
    c.reports_in.ensures.all
