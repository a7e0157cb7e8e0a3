use Rattle.check_texts.proofs.{from_here, instruction_of, instructions_of, MayLeadTo, stage_of, drop, ◌+◌, popped, next_ring}
use Rattle.std.proofs.Math.ListN.{drop_of_length-le}
use Rattle.check_texts.proofs.Plays.{may_end, may_end_behind}
use Rattle.check_texts.proofs.request_answers.goes_on.Goals as goal

pub loop-command-preserved : goal.loop-command-preserved
loop-command-preserved c =
    let old = stage_of c.args.setting.now.catalogue.now c.loop-command.reached in
    let new = stage_of c.args.setting.now.catalogue.now c.in-Some.next in
    let keeps = c.args.setting.now.keeps in
    let commands = c.args.commands.now in
    let i = c.loop-command.command-index in
    let command = c.command-item.result in
    let leads : MayLeadTo keeps old (instruction_of command) new =
    rw c.in-Some.is at (popped (stage_of c.args.setting.now.catalogue.now) c.pop.new.self.items c.pop.result c.pop.ensures.items
    (rw c.new-rings.ensures.items at c.in_ok-_all.ensures.grows)) in
    record {
      ring = next_ring keeps c.loop-command.reached (instruction_of command) c.loop-command.invariant.ring leads;
      ends = λ ends. c.loop-command.invariant.ends (rw (from_here commands i command c.loop-command-test.true c.command-item.is)
          (may_end_behind keeps old (instruction_of command) (instructions_of (drop (i + 1) commands)) leads ends));
    }

pub returns : goal.returns
returns c = λ _.
    let old = (stage_of c.args.setting.now.catalogue.now c.loop-command.reached).ring in
    c.loop-command.invariant.ends (rw (drop_of_length-le c.args.commands.now c.loop-command-test.false) (may_end old))
