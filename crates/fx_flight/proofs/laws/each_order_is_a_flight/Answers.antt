use Rattle.fx_flight.proofs.Submission.{order_flies}
use Rattle.fx_flight.proofs.laws.each_order_is_a_flight.Goals as goal

pub returns : goal.returns
returns c = order_flies
