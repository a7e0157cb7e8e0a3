use Rattle.check_texts.proofs.{instruction_of, stages_of, All, AreExits, AreBare}
use Rattle.check_texts.proofs.layers.exits_of.Given as goal

abbrev pub invariant-loop-from : goal.invariant-loop-from
invariant-loop-from l = record {
  exits : All (AreExits l.setting.catalogue.now (instruction_of l.command)) l.all.items;
  next : AreBare (stages_of l.setting.catalogue.now l.bare.rings.items);
}
