use Rattle.check_texts.proofs.{[], stage_of, All-push, IsRest, at_value}
use Rattle.check_texts.proofs.rests.rests_at_end.Goals as goal

pub rest_at_end-requires : goal.rest_at_end-requires
rest_at_end-requires c =
    let cat = c.args.setting.now.catalogue.now in
    let there = at_value (stage_of cat) c.args.rings.now c.loop-last-test.true c.last-item.is in
    record { bare = c.requires.rings (stage_of cat c.last-item.result) there }

pub loop-last-preserved : goal.loop-last-preserved
loop-last-preserved c =
    rw c.in_ok-push.ensures.items
    (All-push (IsRest c.args.setting.now.catalogue.now [] []) c.loop-last.rests.items _ c.loop-last.invariant c.in_ok-rest_at_end.ensures)
