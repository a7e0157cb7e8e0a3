use Rattle.check_texts.proofs.{all_asked, instructions_of, HasEachSaidFrom, said_in, stages_of, AreSaidFrom, take, IsTrue}
use Rattle.check_texts.proofs.request_answers.answers_at.Given as goal

abbrev pub invariant-loop-from : goal.invariant-loop-from
invariant-loop-from l = record {
  each : AreSaidFrom (stages_of l.setting.catalogue.now l.rings) (all_asked l.asking.requests.now) (instructions_of l.asking.behind.now)
      l.asking.place (said_in l.answers.items);
  all : IsTrue l.are_all → HasEachSaidFrom (stages_of l.setting.catalogue.now (take l.from-index l.rings)) (all_asked l.asking.requests.now)
      l.asking.place (said_in l.answers.items);
}
