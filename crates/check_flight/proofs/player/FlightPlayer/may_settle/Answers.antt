use Rattle.check_flight.proofs.{arith, nil_from_length, sym, ◌∙◌, eqb-true, moves_end}
use Rattle.check_flight.proofs.player.FlightPlayer.may_settle.Goals as goal

pub returns : goal.returns
returns c = λ empty log plans read rests old ring so_far.
    let none = eqb-true _ 0 (sym c.is_empty.ensures ∙ empty) in
    moves_end old log plans ring
    (nil_from_length c.args.self.now.removed.items (omega (arith, none, c.args.self.now.removed.ok.0))) rests so_far
