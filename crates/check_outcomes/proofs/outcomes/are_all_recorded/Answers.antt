use Rattle.check_outcomes.proofs.{IsRecordedAt, sym, false≢true, ◌∙◌, one_more_of}
use Rattle.check_outcomes.proofs.outcomes.are_all_recorded.Goals as goal

pub loop-state-preserved-then-not-is_over : goal.loop-state-preserved-then-not-is_over
loop-state-preserved-then-not-is_over c =
    one_more_of (IsRecordedAt c.args.submission.now c.args.reports.now) c.args.states.now
    c.loop-state.invariant c.loop-state-test.true c.state-item.is
    (λ over. absurd (false≢true (sym c.if-not-is_over.true ∙ c.is_over.ensures over)))

pub loop-state-preserved : goal.loop-state-preserved
loop-state-preserved c =
    let found = c.in-Some.ensures.lookup in
    one_more_of (IsRecordedAt c.args.submission.now c.args.reports.now) c.args.states.now
    c.loop-state.invariant c.loop-state-test.true c.state-item.is
    (λ over. (c.in-Some.possible.now, (c.loop-state.number, found.3.0, sym found.1), c.fits_the_report.ensures c.if-not-fits_the_report.false))
