use Rattle.check_texts.proofs.{instructions_of, stages_of, take, ◌≡◌, All, IsLayer, commands_in, AreBare}
use Rattle.check_texts.proofs.layers.layers_of.Given as goal

abbrev pub invariant-loop-command : goal.invariant-loop-command
invariant-loop-command l = record {
  layers : All (IsLayer l.setting.catalogue.now) l.layers.items;
  commands : commands_in l.layers.items ≡ instructions_of (take l.command-index l.commands);
  last : AreBare (stages_of l.setting.catalogue.now l.rings.items);
}
