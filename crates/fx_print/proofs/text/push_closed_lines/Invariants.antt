use Rattle.std.proofs.Common.{◌≡◌, ◌++◌, take, string_bytes}
use Rattle.fx_print.specs.Text.{closed_lines}
use Rattle.fx_print.proofs.text.push_closed_lines.Given as goal

abbrev pub invariant-loop-file : goal.invariant-loop-file
invariant-loop-file l = string_bytes l.text ≡ string_bytes l.fn.text ++ closed_lines l.catalogue (take l.file-index l.files)
