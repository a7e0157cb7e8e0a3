use Rattle.check_lines.proofs.{◌≡◌, take, true, is_without}
use Rattle.check_lines.proofs.report_lines.cut.Given as goal

-- no byte so far is the one at which the text is cut
abbrev pub invariant-loop-i : goal.invariant-loop-i
invariant-loop-i l = is_without l.at (take l.i l.text) ≡ true
