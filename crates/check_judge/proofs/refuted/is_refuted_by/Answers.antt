use Rattle.check_judge.proofs.{IfOk-weaker}
use Rattle.check_judge.proofs.StrandClaims.{no_order}
use Rattle.check_judge.proofs.refuted.is_refuted_by.Goals as goal

pub returns : goal.returns
returns c = IfOk-weaker c.sees_no_end.result _ _ (λ yes ends it.
    no_order c.args.table.now.slots.now c.args.table.now.closes.now c.args.table.now.chains.now c.args.cells.now c.in_ok-strands.strands.items _
    c.requires c.in_ok-strands.ensures c.deref.ensures.value (ends it)) c.sees_no_end.ensures
