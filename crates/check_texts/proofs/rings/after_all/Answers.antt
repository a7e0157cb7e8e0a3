use Rattle.check_texts.proofs.{instruction_of, instructions_of, AreStagesFrom, stages_of, take, take_all, stage_ring, all_more, each_more, taken_one}
use Rattle.check_texts.proofs.rings.after_all.Goals as goal

pub after-requires : goal.after-requires
after-requires c = rw c.deref.ensures.value (λ s inside. stage_ring c.args.setting.now.keeps
    (instructions_of (take c.loop-command.command-index c.args.commands.now)) (c.loop-command.invariant.each s inside))

pub loop-command-preserved : goal.loop-command-preserved
loop-command-preserved c =
    let cat = c.args.setting.now.catalogue.now in
    let keeps = c.args.setting.now.keeps in
    let front = instructions_of (take c.loop-command.command-index c.args.commands.now) in
    let command = instruction_of c.command-item.result in
    let old = stages_of cat c.loop-command.rings.items in
    let new = stages_of cat c.in_ok-next.next.rings.items in
    let from : AreStagesFrom keeps old command new = rw c.deref.ensures.value at c.in_ok-next.ensures.each in
    let more = taken_one c.args.commands.now c.loop-command-test.true c.command-item.is in
    record {
      each = λ s inside. rw more (each_more keeps front command old new c.loop-command.invariant.each from inside);
      all = λ yes.
          let two = c.both-are_all.ensures yes in
          rw more (all_more keeps front command old new (c.loop-command.invariant.all two.0)
          (rw c.deref.ensures.value at (c.in_ok-next.ensures.all two.1)));
    }

pub returns : goal.returns
returns c =
    let all = take_all c.loop-command.command-index c.args.commands.now c.loop-command-test.false in
    record {
      each = λ s inside. rw all at (c.loop-command.invariant.each s inside);
      rings = λ s inside. stage_ring c.args.setting.now.keeps (instructions_of (take c.loop-command.command-index c.args.commands.now))
          (c.loop-command.invariant.each s inside);
      all = λ yes. rw all at (c.loop-command.invariant.all yes);
    }
