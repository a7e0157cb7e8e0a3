use Rattle.fx_flight.proofs.InTime.{in_time}
use Rattle.fx_flight.proofs.laws.each_call_is_in_its_time.Goals as goal

pub returns : goal.returns
returns c = in_time
