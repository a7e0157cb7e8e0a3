use Rattle.fx_flight.proofs.laws.each_log_of_whole_updates_is_legal.Goals as goal

pub returns : goal.returns
returns c = λ old log is. is.0
