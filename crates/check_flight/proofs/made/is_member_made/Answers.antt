use Rattle.check_flight.proofs.{◌-◌, ◌<◌, ◌∙◌, ap, arith, length, sym, IfOk-weaker, get_or-map, length-map, completed_of, member_done}
use Rattle.check_flight.proofs.made.is_member_made.Goals as goal

pub returns : goal.returns
returns c =
    let plan = c.args.plan.now in
    let m = c.args.c.now.place.member in
    let answers = plan.answers.items in
    let few : m - 1 < length answers = omega (arith, c.if-m-eq0.false, c.if-m-len.false, plan.answers.ok.0) in
    IfOk-weaker c.are_done.result _ _
    (λ yes done it. record {
      at = m - 1;
      inside = omega (arith, few, length-map answers completed_of);
      answer = get_or-map completed_of answers (m - 1) c.index.result.now (completed_of c.args.c.now) few
          ∙ (ap completed_of (sym c.index.ensures) ∙ c.is_same_answer.ensures c.if-not-is_same_answer.false);
      own = c.accesses_made-own.result;
      few = c.if-own-made.false;
      done = member_done c.args.log.now plan c.args.requests.now c.args.c.now.place.submission m c.accesses_made-own.result c.deref-2.result.now
          c.deref.result.now (omega (arith, c.if-m-eq0.false)) c.deref-2.ensures.value c.deref.ensures.value (done it);
    })
    c.are_done.ensures
