use Rattle.std.proofs.Common.{◌≡◌, ◌++◌, take, string_bytes}
use Rattle.fx_print.specs.Text.{tag_lines}
use Rattle.fx_print.proofs.text.push_tags.Given as goal

abbrev pub invariant-loop-completion : goal.invariant-loop-completion
invariant-loop-completion l = string_bytes l.text ≡ string_bytes l.fn.text ++ tag_lines (take l.completion-index l.completions)
