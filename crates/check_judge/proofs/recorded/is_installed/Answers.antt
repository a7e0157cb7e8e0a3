use Rattle.check_judge.proofs.{⊎_elim, none_installed}
use Rattle.check_lines.proofs.Cuts.{from_here}
use Rattle.check_judge.proofs.recorded.is_installed.Goals.{else-i-completions-via-then-i-completions+else-has_installed}
use Rattle.check_judge.proofs.recorded.is_installed.Goals.{else-i-completions-via-else-i-completions}
use Rattle.check_judge.proofs.recorded.is_installed.Goals as goal

pub loop-i-preserved : goal.loop-i-preserved
loop-i-preserved c = λ one. elim c.else-i-completions.branch [
  | else-i-completions-via-then-i-completions+else-has_installed w ↦
      ⊎_elim (λ here. absurd (w.has_installed.ensures w.if-has_installed.false here)) (λ later. later)
      (rw (
        from_here c.args.requests.now c.loop-i.i w.index-requests-i.result c.loop-i-test.true w.index-requests-i.is,
        from_here c.args.completions.now c.loop-i.i w.index-completions-i.result w.if-i-completions.true w.index-completions-i.is,
      ) at (c.loop-i.invariant one))
  | else-i-completions-via-else-i-completions w ↦
      absurd (none_installed c.args.requests.now c.args.completions.now c.args.mark w.if-i-completions.false (c.loop-i.invariant one))
]
