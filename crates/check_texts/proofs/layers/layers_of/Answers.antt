use Rattle.check_texts.proofs.{refl, take_all, All-nil, All-push, IsLayer, taken_one, bare_start, commands_more}
use Rattle.check_texts.proofs.layers.layers_of.Goals as goal

pub loop-command-init : goal.loop-command-init
loop-command-init c =
    let cat = c.args.setting.now.catalogue.now in
    record {
      layers = rw c.new-layers.ensures.items (All-nil (IsLayer cat));
      commands = rw c.new-layers.ensures.items refl;
      last = rw (c.in_ok-rings.ensures cat) (bare_start cat);
    }

pub exits_of-requires-clause-rings : goal.exits_of-requires-clause-rings
exits_of-requires-clause-rings c = rw c.deref.ensures.value c.loop-command.invariant.last

pub loop-command-preserved : goal.loop-command-preserved
loop-command-preserved c =
    let cat = c.args.setting.now.catalogue.now in
    record {
      layers = rw c.in_ok-push.ensures.items
          (All-push (IsLayer cat) c.loop-command.layers.items _ c.loop-command.invariant.layers c.in_ok-exits.ensures.exits);
      commands = rw (c.in_ok-push.ensures.items, taken_one c.args.commands.now c.loop-command-test.true c.command-item.is)
          (commands_more c.loop-command.layers.items _ c.loop-command.invariant.commands);
      last = c.in_ok-exits.ensures.next;
    }

pub returns-clause-commands : goal.returns-clause-commands
returns-clause-commands c =
    rw (take_all c.loop-command.command-index c.args.commands.now c.loop-command-test.false) at c.loop-command.invariant.commands
