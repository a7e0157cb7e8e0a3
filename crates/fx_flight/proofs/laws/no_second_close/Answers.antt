use Rattle.fx_flight.proofs.Beginnings.{closes_once}
use Rattle.fx_flight.proofs.laws.no_second_close.Goals as goal

pub returns : goal.returns
returns c = closes_once
