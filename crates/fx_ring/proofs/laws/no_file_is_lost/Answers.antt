use Rattle.fx_ring.proofs.Words.{state_of, opening_is_start, every_removed_file_is_closed}
use Rattle.fx_ring.proofs.laws.no_file_is_lost.Goals as goal

pub returns : goal.returns
returns c = λ old new requests report one f.
    every_removed_file_is_closed _ one.end one.history f (opening_is_start (state_of old.table) _) one.legal.leads.0 one.legal.leads.1 one.settled
