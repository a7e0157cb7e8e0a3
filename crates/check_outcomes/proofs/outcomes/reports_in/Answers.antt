use Rattle.check_outcomes.proofs.{◌∙◌, false≢true, sym}
use Rattle.check_outcomes.proofs.AllReports.{reports_by, ends_by}
use Rattle.check_outcomes.proofs.outcomes.reports_in.Goals.{then-are_recorded+in_ok-are_all, else-are_recorded}
use Rattle.check_outcomes.proofs.outcomes.reports_in.Goals as goal

pub returns-clause-ends : goal.returns-clause-ends
returns-clause-ends c = elim c.if-are_recorded.branch [
  | then-are_recorded+in_ok-are_all w ↦ rw w.are_all-is (λ yes. ends_by c.in_ok-reports.reports.items (w.in_ok-are_all.ensures yes)
      (rw (c.deref.ensures.value, c.deref-2.ensures.value) at (c.are_all_recorded-are_recorded.ensures w.if-are_recorded.true)) c.in_ok-reports.ensures)
  | else-are_recorded w ↦ rw w.are_all-is (λ yes. absurd (false≢true (sym w.if-are_recorded.false ∙ yes)))
]

pub returns-clause-all : goal.returns-clause-all
returns-clause-all c = elim c.if-are_recorded.branch [
  | then-are_recorded+in_ok-are_all w ↦ rw w.are_all-is (λ yes. reports_by c.in_ok-reports.reports.items (w.in_ok-are_all.ensures yes)
      (rw (c.deref.ensures.value, c.deref-2.ensures.value) at (c.are_all_recorded-are_recorded.ensures w.if-are_recorded.true)) c.in_ok-reports.ensures)
  | else-are_recorded w ↦ rw w.are_all-is (λ yes. absurd (false≢true (sym w.if-are_recorded.false ∙ yes)))
]
