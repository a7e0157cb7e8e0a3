use Rattle.check_flight.proofs.{IfOk-weaker}
use Rattle.check_flight.proofs.player.FlightPlayer.event.Goals as goal

pub returns-in-None : goal.returns-in-None
returns-in-None c = IfOk-weaker c.follow.result _ _ (λ yes all it read. all it read c.in-None.is) c.follow.ensures
