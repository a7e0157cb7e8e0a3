use Rattle.std.proofs.Common.{◌≡◌, ◌++◌, take, string_bytes}
use Rattle.fx_chain.specs.Completed.{all_completed}
use Rattle.fx_print.specs.Text.{completion_lines}
use Rattle.fx_print.proofs.text.push_completions.Given as goal

abbrev pub invariant-loop-completion : goal.invariant-loop-completion
invariant-loop-completion l = string_bytes l.text ≡ string_bytes l.fn.text ++ completion_lines (all_completed (take l.completion-index l.completions))
