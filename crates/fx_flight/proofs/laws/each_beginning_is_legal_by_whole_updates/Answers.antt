use Rattle.fx_flight.proofs.Beginnings.{whole_beginning}
use Rattle.fx_flight.proofs.laws.each_beginning_is_legal_by_whole_updates.Goals as goal

pub returns : goal.returns
returns c = whole_beginning
