use Rattle.check_reason.proofs.reason.explain.Goals as goal

pub returns-then-branch-clause-right : goal.returns-then-branch-clause-right
returns-then-branch-clause-right c =
    let right = rw c.deref.ensures.value at c.in_ok-is_refuted.ensures.exact.0 c.if-branch.true in
    rw (c.in_ok-certificate.ensures, c.as_slice.ensures.value) at right

pub returns-then-branch-clause-refuted : goal.returns-then-branch-clause-refuted
returns-then-branch-clause-refuted c = c.in_ok-is_refuted.ensures.sound c.if-branch.true
