use Rattle.check_lines.proofs.{length, map, codes, named_close_of, AreAll, IsCloseInRange, named_line, HasFirst}
use Rattle.check_lines.proofs.report_lines.read_closed.Given as goal

abbrev pub decreases-loop-tail : goal.decreases-loop-tail
decreases-loop-tail l = length l.rest

-- the closed files so far are those of the first lines
abbrev pub invariant-loop-tail : goal.invariant-loop-tail
invariant-loop-tail l = HasFirst named_line IsCloseInRange (AreAll (codes "closed ")) l.text (map named_close_of l.closed.items) l.rest
