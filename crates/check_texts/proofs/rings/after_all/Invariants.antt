use Rattle.check_texts.proofs.{instructions_of, new_ring, HasEachLast, MayLeadAllTo, Stage, stages_of, take, Contains, IsTrue}
use Rattle.check_texts.proofs.rings.after_all.Given as goal

abbrev pub invariant-loop-command : goal.invariant-loop-command
invariant-loop-command l = record {
  each : (s : Stage) → Contains (stages_of l.setting.catalogue.now l.rings.items) s
      → MayLeadAllTo l.setting.keeps (new_ring l.setting.catalogue.now) (instructions_of (take l.command-index l.commands)) s;
  all : IsTrue l.are_all → HasEachLast l.setting.keeps (new_ring l.setting.catalogue.now) (instructions_of (take l.command-index l.commands))
      (stages_of l.setting.catalogue.now l.rings.items);
}
