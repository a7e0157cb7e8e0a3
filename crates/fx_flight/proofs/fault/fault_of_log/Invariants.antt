use Rattle.fx_flight.proofs.{◌≡◌, [], all_happenings, drop}
use Rattle.fx_flight.proofs.Words.{fault_of_log}
use Rattle.fx_flight.proofs.fault.fault_of_log.Given as goal

-- the first fault is that of the events that are left
abbrev pub invariant-loop-i : goal.invariant-loop-i
invariant-loop-i l =
    fault_of_log l.i l.calls.items (all_happenings (drop l.i l.events)) ≡ fault_of_log 0 [] (all_happenings l.events)
