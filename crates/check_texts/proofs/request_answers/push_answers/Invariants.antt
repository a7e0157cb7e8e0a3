use Rattle.check_texts.proofs.{Completed, completed_of, all_asked, instructions_of, Grows, MaySay, said_in, stage_of, map, take, Contains, IsTrue}
use Rattle.check_texts.proofs.request_answers.push_answers.Given as goal

abbrev pub invariant-loop-answer : goal.invariant-loop-answer
invariant-loop-answer l = record {
  grows : Grows (MaySay (stage_of l.setting.catalogue.now l.from).ring (all_asked l.asking.requests.now) (instructions_of l.asking.behind.now)
      l.asking.place) (said_in l.fn.answers.items) (said_in l.answers.items);
  there : IsTrue l.are_there → (it : Completed) → Contains (map (λ answer. completed_of answer.completion) (take l.answer-index l.answer-items)) it
      → Contains (said_in l.answers.items) it;
}
