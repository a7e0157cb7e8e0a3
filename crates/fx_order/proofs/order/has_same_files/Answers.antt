use Rattle.fx_order.proofs.{arith, none_left, one_more, none_over}
use Rattle.fx_order.proofs.Ordered.{never}
use Rattle.fx_order.proofs.order.has_same_files.Goals as goal

pub returns-in_default : goal.returns-in_default
returns-in_default c =
    never (none_left c.args.files.now c.args.others.now c.loop-file.left.items c.loop-file.file-index c.loop-file.invariant _ c.loop-file-test.true
    (rw c.deref.ensures.value at c.in_default.ensures.none))

pub loop-file-preserved : goal.loop-file-preserved
loop-file-preserved c = grind (arith, one_more)

pub returns : goal.returns
returns c = rw c.is_empty.ensures (none_over c.args.files.now c.args.others.now c.loop-file.left.items c.loop-file.file-index c.loop-file.invariant
    c.loop-file-test.false (omega (arith, c.loop-file.left.ok.0)))
