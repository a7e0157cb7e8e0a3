use Rattle.check_flight.proofs.{AreFewer}
use Rattle.check_flight.proofs.state.still_waiting.Given as goal

abbrev pub invariant-loop-look : goal.invariant-loop-look
invariant-loop-look l = AreFewer l.waiting l.after.items
