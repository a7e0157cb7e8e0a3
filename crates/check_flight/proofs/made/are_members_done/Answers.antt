use Rattle.check_flight.proofs.{IfOk-weaker, first_done}
use Rattle.check_flight.proofs.made.are_members_done.Goals as goal

pub returns : goal.returns
returns c = IfOk-weaker c.are_done.result _ _
    (λ yes done it. (
      c.members_made-m.result,
      first_done c.args.log.now c.args.plan.now c.args.requests.now c.args.id c.members_made-m.result c.args.made c.deref-3.result.now
          c.deref-2.result.now c.deref-3.ensures.value c.deref-2.ensures.value (done it),
    ))
    c.are_done.ensures
