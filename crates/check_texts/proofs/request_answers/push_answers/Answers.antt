use Rattle.check_texts.proofs.{IsAnswer, PossibleAnswer, completed_of, all_asked, stage_of, take_all, grows_on, there_more, answer_ring}
use Rattle.check_texts.proofs.{answer_may_say, few_left}
use Rattle.check_texts.proofs.request_answers.push_answers.Goals.{After-answer-item}
use Rattle.check_texts.proofs.request_answers.push_answers.Goals as goal

is_answer : (c : After-answer-item)
    → IsAnswer (stage_of c.args.setting.now.catalogue.now c.args.from.now).ring (all_asked c.args.asking.now.requests.now)
    c.args.asking.now.place c.answer-item.result
is_answer c = rw (c.answer-item.is, c.deref-answer-items.ensures.value)
    (c.in_ok-found.ensures.each c.args.from.now.ring.registrations _ _ (rw c.deref-answer-items.ensures.value at c.loop-answer-test.true))

pub push_answer-requires-clause-room : goal.push_answer-requires-clause-room
push_answer-requires-clause-room c = few_left (is_answer (goal.at.push_answer-requires-clause-room c).After-answer-item).by c.args.from.now.few_slots

pub push_answer-requires-clause-ring : goal.push_answer-requires-clause-ring
push_answer-requires-clause-ring c =
    answer_ring c.args.from.now c.requires.ring (is_answer (goal.at.push_answer-requires-clause-ring c).After-answer-item)

pub loop-answer-preserved : goal.loop-answer-preserved
loop-answer-preserved c =
    let is = is_answer (goal.at.loop-answer-preserved c).After-answer-item in
    let one = c.in_ok-is_there.ensures.grows in
    record {
      grows = grows_on (λ it given. rw given.0 (answer_may_say c.args.asking.now.faultless c.requires.few is given.1))
          c.loop-answer.invariant.grows one;
      there = λ yes.
          let two = c.both-are_there.ensures yes in
          there_more (λ (a : PossibleAnswer). completed_of a.completion) c.deref-answer-items.result.now c.loop-answer-test.true c.answer-item.is one
          (c.loop-answer.invariant.there two.0) (c.in_ok-is_there.ensures.there two.1);
    }

pub returns-clause-all : goal.returns-clause-all
returns-clause-all c = λ yes ring next line report it same prints found inside there.
    let two = c.both-all.ensures yes in
    (rw (take_all c.loop-answer.answer-index c.deref-answer-items.result.now c.loop-answer-test.false, c.deref-answer-items.ensures.value)
    at (c.loop-answer.invariant.there two.1)) it
    (c.in_ok-found.ensures.all two.0 c.args.from.now.ring.registrations ring next it same
    (record { report = report; may = found.may; inside = inside }) there)
