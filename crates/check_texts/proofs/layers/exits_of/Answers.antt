use Rattle.check_texts.proofs.{instruction_of, stage_of, All-push, AreExits, IsBare, at_value, next_ring, exits_are, only_new}
use Rattle.check_texts.proofs.layers.exits_of.Goals.{After-from-item}
use Rattle.check_texts.proofs.layers.exits_of.Goals as goal

is_bare : (c : After-from-item) → IsBare (stage_of c.args.setting.now.catalogue.now c.from-item.result)
is_bare c =
    let cat = c.args.setting.now.catalogue.now in
    c.requires.rings (stage_of cat c.from-item.result) (at_value (stage_of cat) c.args.rings.now c.loop-from-test.true c.from-item.is)

pub push_next-requires : goal.push_next-requires
push_next-requires c = record { ring = (is_bare (goal.at.push_next-requires c).After-from-item).0 }

pub loop-from-preserved : goal.loop-from-preserved
loop-from-preserved c =
    let cat = c.args.setting.now.catalogue.now in
    let command = instruction_of c.args.command.now in
    let keeps = c.args.setting.now.keeps in
    let bare = is_bare (goal.at.loop-from-preserved c).After-from-item in
    let grows = rw c.new-to.ensures.items at c.in_ok-are_all.ensures.grows in
    let are = exits_are cat command keeps (stage_of cat c.from-item.result) _ c.requires.told bare (c.in_ok-copy_of.ensures.same cat)
    (λ s inside. only_new grows s inside) c.in_ok-are_all.ensures.all in
    record {
      exits = rw c.in_ok-push.ensures.items
          (All-push (AreExits cat command) c.loop-from.all.items _ c.loop-from.invariant.exits are);
      next = c.in_ok-numbers.ensures cat (rw c.deref.ensures.value (λ s inside.
          next_ring keeps c.from-item.result command bare.0 (only_new grows s inside))) c.loop-from.invariant.next;
    }
