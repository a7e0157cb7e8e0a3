use Rattle.check_texts.proofs.{instructions_of, count_after_all, take, ◌<◌, ◌≡◌}
use Rattle.check_texts.proofs.request_answers.asking_at.Given as goal

abbrev pub invariant-loop-i : goal.invariant-loop-i
invariant-loop-i l = record {
  count : l.count ≡ count_after_all 0 (instructions_of (take l.i l.commands));
  few : l.count < l.place.submission;
}
