use Rattle.check_lines.proofs.{length, ◌<◌, ◌^◌, codes, AreAll, line_of_tag, HasFirst}
use Rattle.check_lines.proofs.report_lines.read_tags.Given as goal

abbrev pub decreases-loop-tail : goal.decreases-loop-tail
decreases-loop-tail l = length l.rest

-- the tags so far are those of the first lines
abbrev pub invariant-loop-tail : goal.invariant-loop-tail
invariant-loop-tail l = HasFirst line_of_tag (λ tag. tag < 2 ^ 64) (AreAll (codes "tag ")) l.text l.tags.items l.rest
