use Rattle.check_flight.proofs.{[], ◌≤◌, length, take, log_in, MovesOn}
use Rattle.check_flight.proofs.player.FlightPlayer.play.Given as goal

abbrev pub invariant-loop-made : goal.invariant-loop-made
invariant-loop-made l = record {
  within : l.at ≤ length l.log.events.now;
  so_far : MovesOn l.log l.plan.calls.items [] l.initial.self (take l.at (log_in l.log)) l.self;
}
