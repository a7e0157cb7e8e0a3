use Rattle.check_flight.proofs.{moves_found}
use Rattle.check_flight.proofs.player.FlightPlayer.find.Goals as goal

pub returns : goal.returns
returns c = λ _ read rests old ring so_far.
    let self = c.args.self.now in
    let next = record self { holds = c.add_hold.new.holds } in
    moves_found old c.args.log.now c.args.plans.now ring self next c.args.id c.args.found (c.has_found.ensures c.if-not-has_found.false)
    c.in_ok-add_hold.ensures.kept c.in_ok-add_hold.ensures.more rests so_far
