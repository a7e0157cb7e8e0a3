use Rattle.check_lines.proofs.{◌≡◌, ◌+◌, length, take}
use Rattle.check_lines.proofs.call_answer.close_in_order.Given as goal

abbrev pub invariant-loop-file : goal.invariant-loop-file
invariant-loop-file l = record {
  files : l.closes.files ≡ take l.file-index l.files;
  room : l.closes.room + l.file-index ≡ length l.files;
}
