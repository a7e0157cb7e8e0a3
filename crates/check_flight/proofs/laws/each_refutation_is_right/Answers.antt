use Rattle.check_flight.proofs.Fronts.{refuted}
use Rattle.check_flight.proofs.laws.each_refutation_is_right.Goals as goal

pub returns : goal.returns
returns c = refuted
