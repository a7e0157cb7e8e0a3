use Rattle.check_judge.proofs.StrandClaims.{no_order}
use Rattle.check_judge.proofs.part.judge_part.Goals as goal

pub returns-in-NoEnd : goal.returns-in-NoEnd
returns-in-NoEnd c =
    no_order c.args.table.now.slots.now c.args.table.now.closes.now c.args.table.now.chains.now c.args.cells.now c.in_ok-strands.strands.items _
    c.requires c.in_ok-strands.ensures c.deref-in-NoEnd.ensures.value (c.in_ok-shows_no_end-in-NoEnd.ensures c.if-not-branch.false)
