use Rattle.check_judge.proofs.{sym}
use Rattle.check_judge.proofs.judging.judge_submission.Goals as goal

pub returns-then-branch-clause-verdict : goal.returns-then-branch-clause-verdict
returns-then-branch-clause-verdict c =
    rw (sym c.deref.ensures.value) (c.in_ok-confirm-in-Order.ensures.came c.if-branch.true)
