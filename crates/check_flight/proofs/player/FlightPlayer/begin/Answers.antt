use Rattle.check_flight.proofs.{arith, moves_begin, planned_at}
use Rattle.check_flight.proofs.player.FlightPlayer.begin.Goals as goal

pub returns : goal.returns
returns c = λ _ read rests old ring so_far.
    let self = c.args.self.now in
    let log = c.args.log.now in
    let plans = c.args.plans.now in
    let kind = c.args.kind in
    let planned = planned_at log plans c.len-i.result c.args.id kind c.index-plans-i.result (omega (arith, c.if-id-i.false, c.if-id-eq0.false))
    c.if-i-plans.false c.index-plans-i.is (c.in_ok-is_planned.ensures c.if-not-branch.false) in
    moves_begin old log plans ring self (record self { calls = c.push.new.self }) kind
    (omega (arith, self.calls.ok.0, c.if-id-i.false, c.if-id-eq0.false)) planned c.in_ok-push.ensures.items rests so_far
