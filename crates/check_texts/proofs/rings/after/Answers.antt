use Rattle.check_texts.proofs.{stage_of, take_all, at_value, from_more, holds_more}
use Rattle.check_texts.proofs.rings.after.Goals as goal

pub push_next-requires : goal.push_next-requires
push_next-requires c =
    let cat = c.args.setting.now.catalogue.now in
    let reached = c.reached-item.result in
    record { ring = c.requires (stage_of cat reached) (at_value (stage_of cat) c.args.rings.now c.loop-reached-test.true c.reached-item.is) }

pub loop-reached-preserved : goal.loop-reached-preserved
loop-reached-preserved c =
    let grows = c.in_ok-all.ensures.grows in
    let stage_at = stage_of c.args.setting.now.catalogue.now in
    record {
      each = from_more stage_at c.args.rings.now c.loop-reached-test.true c.reached-item.is grows c.loop-reached.invariant.each;
      all = λ yes.
          let two = c.both-are_all.ensures yes in
          holds_more stage_at c.args.rings.now c.loop-reached-test.true c.reached-item.is
          (λ o has ring next line same leads. grows.kept _ (c.loop-reached.invariant.all two.0 o has ring next line same leads))
          (c.in_ok-all.ensures.all two.1);
    }

pub returns-clause-all : goal.returns-clause-all
returns-clause-all c = λ yes.
    rw (take_all c.loop-reached.reached-index c.args.rings.now c.loop-reached-test.false) at (c.loop-reached.invariant.all yes)
