use Rattle.check_lines.proofs.{take_rest, cut_here}
use Rattle.check_lines.proofs.report_lines.cut.Goals as goal

pub returns-then-b-at : goal.returns-then-b-at
returns-then-b-at c = rw take_rest (cut_here c.args.at c.args.text.now c.loop-i.i c.loop-i-test.true c.if-b-at.true c.loop-i.invariant)
