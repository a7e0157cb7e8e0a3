use Rattle.check_texts.proofs.{RingState, stage_of, ap, take_all, at_value, from_more, holds_more, no_report}
use Rattle.check_texts.proofs.request_answers.answers_at.Goals as goal

pub push_answers-requires-clause-ring : goal.push_answers-requires-clause-ring
push_answers-requires-clause-ring c =
    let cat = c.args.setting.now.catalogue.now in
    c.requires (stage_of cat c.from-item.result) (at_value (stage_of cat) c.args.rings.now c.loop-from-test.true c.from-item.is)

pub loop-from-preserved-then-not-is_accepted : goal.loop-from-preserved-then-not-is_accepted
loop-from-preserved-then-not-is_accepted c = record {
  each = c.loop-from.invariant.each;
  all = λ yes. holds_more (stage_of c.args.setting.now.catalogue.now) c.args.rings.now c.loop-from-test.true c.from-item.is
      (c.loop-from.invariant.all yes) (λ ring next line report it same prints found inside there.
      absurd (no_report found prints
      (rw (ap (λ (r : RingState). r.submissions) same) (c.is_accepted.ensures.refused c.if-not-is_accepted.true))));
}

pub loop-from-preserved : goal.loop-from-preserved
loop-from-preserved c =
    let grows = c.in_ok-all.ensures.grows in
    let stage_at = stage_of c.args.setting.now.catalogue.now in
    record {
      each = from_more stage_at c.args.rings.now c.loop-from-test.true c.from-item.is grows c.loop-from.invariant.each;
      all = λ yes.
          let two = c.both-are_all.ensures yes in
          holds_more stage_at c.args.rings.now c.loop-from-test.true c.from-item.is
          (λ o has ring next line report it same prints found inside there.
          grows.kept it (c.loop-from.invariant.all two.0 o has ring next line report it same prints found inside there))
          (c.in_ok-all.ensures.all two.1);
    }

pub returns-clause-all : goal.returns-clause-all
returns-clause-all c = λ yes. rw (take_all c.loop-from.from-index c.args.rings.now c.loop-from-test.false) at (c.loop-from.invariant.all yes)
