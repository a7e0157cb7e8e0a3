use Rattle.check_judge.proofs.{drop, all_completed, all_asked, OneInstalled}
use Rattle.check_judge.proofs.recorded.is_installed.Given as goal

-- a request after those that were checked
abbrev pub invariant-loop-i : goal.invariant-loop-i
invariant-loop-i l = OneInstalled (all_asked l.requests) (all_completed l.completions) l.mark
    → OneInstalled (all_asked (drop l.i l.requests)) (all_completed (drop l.i l.completions)) l.mark
