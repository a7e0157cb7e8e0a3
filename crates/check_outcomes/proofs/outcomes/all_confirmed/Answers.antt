use Rattle.check_outcomes.proofs.{All-push, IsPossibleIn}
use Rattle.check_outcomes.proofs.outcomes.all_confirmed.Goals as goal

pub loop-by-preserved : goal.loop-by-preserved
loop-by-preserved c = rw c.in_ok-push.ensures.items (All-push (IsPossibleIn c.args.submission.now c.args.slots.now)
    c.loop-by.reports.items _ c.loop-by.invariant (rw c.in-Some.is at c.in_ok-report.ensures))
