use Rattle.check_judge.proofs.{refl, none_past}
use Rattle.check_judge.proofs.Plays.{order_rings}
use Rattle.check_judge.proofs.judging.confirm.Goals as goal

pub returns-clause-came : goal.returns-clause-came
returns-clause-came c = λ _ room. (
  record {
    order = c.args.order.now;
    is = rw (c.deref.ensures.value, c.deref-2.ensures.value) at ((rw c.in-Some.is at c.in_ok-left.ensures.order).0 refl c.args.ring.now.registrations room);
    after = (rw c.in-Some.is at c.in_ok-left.ensures.left) c.args.ring.now.registrations;
  },
  refl,
)

pub returns-clause-ring : goal.returns-clause-ring
returns-clause-ring c =
    order_rings c.requires.ring
    (none_past c.args.case.now.catalogue.now c.args.ring.now) c.requires.few_slots c.args.case.now.accepted (returns-clause-came c refl 0).0
