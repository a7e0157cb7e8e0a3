use Rattle.check_texts.proofs.{MayLeadTo, RingState, refl, stage_of, stages_of, subst, sym, take, take_all, true, [], ◌∷◌, map_more, at_value}
use Rattle.check_texts.proofs.{no_ways, rest_of_exits, rest_there}
use Rattle.check_texts.proofs.rests.rest_before.Goals as goal

pub loop-i-init : goal.loop-i-init
loop-i-init c = record {
  ring = c.in_ok-copy_of.ensures.same;
  all = λ yes. yes;
  ways = λ command commands behind are later.
      no_ways c.args.setting.now.catalogue.now command commands (c.args.later.now ∷ behind) _ _ refl c.new.ensures.items;
}

pub loop-i-preserved : goal.loop-i-preserved
loop-i-preserved c =
    let cat = c.args.setting.now.catalogue.now in
    let exit = c.index-to-i.result in
    let stands = rw c.as_slice-to.ensures.value at (at_value (stage_of cat) c.as_slice-to.result.now c.loop-i-test.true c.index-to-i.is) in
    record {
      ring = λ catalogue. rw c.in_ok-push_exit.ensures.ring (c.loop-i.invariant.ring catalogue);
      all = λ yes. c.loop-i.invariant.all (c.in_ok-push_exit.ensures.all yes);
      ways = λ command commands behind are later.
          let leads = subst (λ (r : RingState). MayLeadTo true (record { ring = r; printed = [] }) command (stage_of cat exit))
          (sym (c.loop-i.invariant.ring cat)) (are.each (stage_of cat exit) stands) in
          rw (map_more (stage_of cat) c.as_slice-to.result.now c.loop-i.i exit c.loop-i-test.true, sym c.index-to-i.is)
          (c.in_ok-push_exit.ensures.ways command commands (stages_of cat (take c.loop-i.i c.as_slice-to.result.now))
          (c.args.later.now ∷ behind) leads
          (rest_there cat commands behind c.args.later.now _ exit.ring later c.rest_at-behind.result c.rest_at-behind.ensures.there
          c.rest_at-behind.ensures.same)
          (c.loop-i.invariant.ways command commands behind are later));
    }

pub returns : goal.returns
returns c = λ command commands behind are later.
    let cat = c.args.setting.now.catalogue.now in
    rest_of_exits cat command commands (c.args.later.now ∷ behind) c.args.exits.now (c.loop-i.invariant.ring cat) c.loop-i.invariant.all are
    (rw (take_all c.loop-i.i c.as_slice-to.result.now c.loop-i-test.false, c.as_slice-to.ensures.value)
    at (c.loop-i.invariant.ways command commands behind are later))
