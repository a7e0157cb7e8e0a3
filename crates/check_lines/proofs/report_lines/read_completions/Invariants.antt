use Rattle.check_lines.proofs.{◌≡◌, length, HasLength, IsCompletionInRange, all_completed, completion_line, HasFirst}
use Rattle.check_lines.proofs.report_lines.read_completions.Given as goal

-- the completions so far are those of the first lines
abbrev pub invariant-loop : goal.invariant-loop
invariant-loop l = record {
  counted : length l.completions.items ≡ l.counter;
  first : HasFirst completion_line IsCompletionInRange (HasLength l.count) l.text (all_completed l.completions.items) l.rest;
}
