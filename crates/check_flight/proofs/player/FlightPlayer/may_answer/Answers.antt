use Rattle.check_flight.proofs.{◌-◌, ◌<◌, arith, length, sym, IfOk-weaker, moves_answer}
use Rattle.check_flight.proofs.player.FlightPlayer.may_answer.Goals as goal

pub returns-in-Chain : goal.returns-in-Chain
returns-in-Chain c =
    let self = c.args.self.now in
    let plans = c.args.plans.now in
    let i = c.args.c.now.place.submission - 1 in
    let within : i < length plans = omega (arith, c.if-id-plans.false, c.if-id-eq0.false) in
    IfOk-weaker c.is_member_made.result _ _
    (λ yes member it read rests old ring so_far. moves_answer old c.args.log.now plans ring i (omega (arith, c.if-id-eq0.false))
    (omega (arith, c.if-id-len.false, c.if-id-eq0.false, self.calls.ok.0)) (sym c.index-call.ensures)
    (λ flight logged. (rw c.in-Chain.is at logged).0) within (sym c.index-plans-id.is) (member it) rests so_far)
    c.is_member_made.ensures
