use Rattle.fx_ring.proofs.Words.{state_of, opening_is_start, closed_at_most_once}
use Rattle.fx_ring.proofs.laws.no_file_closes_twice.Goals as goal

pub returns : goal.returns
returns c = λ old new requests report one number. closed_at_most_once _ one.history number (opening_is_start (state_of old.table) _) one.legal.leads.0
