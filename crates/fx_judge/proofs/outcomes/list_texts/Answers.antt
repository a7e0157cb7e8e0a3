use Rattle.fx_judge.proofs.Found.{all_listed, some_listed}
use Rattle.fx_judge.proofs.outcomes.list_texts.Goals as goal

pub returns-then-all : goal.returns-then-all
returns-then-all c =
    let found = c.in-Ok-texts_of.ensures in let copied = c.hand_out.ensures in let there = c.if-not-hand_out.false in
    all_listed c.in-Ok-texts_of.all.texts.keys c.hand_out.new.found c.hand_out.new.texts c.hand_out.new.lengths c.in-Ok.ensures.script found.each found.once
    (rw (← c.as_slice.ensures.keys) c.in-Ok-list.ensures.bytes) (rw (← c.as_slice.ensures.keys) c.in-Ok-list.ensures.lengths)
    copied.bytes copied.count (copied.texts there) (copied.lengths there) (found.all c.if-all.true)

pub returns : goal.returns
returns c =
    let found = c.in-Ok-texts_of.ensures in let copied = c.hand_out.ensures in let there = c.if-not-hand_out.false in
    some_listed c.in-Ok-texts_of.all.texts.keys c.hand_out.new.found c.hand_out.new.texts c.hand_out.new.lengths c.in-Ok.ensures.script found.each found.once
    (rw (← c.as_slice.ensures.keys) c.in-Ok-list.ensures.bytes) (rw (← c.as_slice.ensures.keys) c.in-Ok-list.ensures.lengths)
    copied.bytes copied.count (copied.texts there) (copied.lengths there)
