use Rattle.check_texts.proofs.{instruction_of, AreStagesFrom, HasEachFrom, stages_of, take, IsTrue}
use Rattle.check_texts.proofs.rings.after.Given as goal

abbrev pub invariant-loop-reached : goal.invariant-loop-reached
invariant-loop-reached l = record {
  each : AreStagesFrom l.setting.keeps (stages_of l.setting.catalogue.now l.rings) (instruction_of l.command)
      (stages_of l.setting.catalogue.now l.next.items);
  all : IsTrue l.are_all → HasEachFrom l.setting.keeps (stages_of l.setting.catalogue.now (take l.reached-index l.rings)) (instruction_of l.command)
      (stages_of l.setting.catalogue.now l.next.items);
}
