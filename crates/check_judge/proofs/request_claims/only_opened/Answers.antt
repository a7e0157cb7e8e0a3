use Rattle.check_judge.proofs.{arith, operation_of, only_so}
use Rattle.check_judge.proofs.request_claims.only_opened.Goals as goal

pub returns : goal.returns
returns c =
    let over = c.loop-other-test.false in
    let many = c.len-other-end.ensures.value in
    only_so c.args.catalogue.now (operation_of c.args.request.now.op) c.in_ok-entry.entry c.in_ok-entry.ensures.some
    (λ k inside named. c.loop-other.invariant k (omega arith) named)
