use Rattle.check_flight.proofs.{◌≡◌, arith, length, take, eqb-true, length-map, take_all, log_in, happening_of, read_more}
use Rattle.check_flight.proofs.player.FlightPlayer.play.Goals as goal

pub loop-made-init : goal.loop-made-init
loop-made-init c = record { within = omega arith; so_far = λ old ring so_far. so_far }

pub loop-made-preserved : goal.loop-made-preserved
loop-made-preserved c =
    let log = c.args.log.now in
    let found = c.in-Some.ensures.lookup in
    record {
      within = omega (arith, found.3.0);
      so_far = rw (read_more log.events.now c.loop-made.at c.in-Some.event.now found.3.0 found.1)
          (λ old ring before. (rw c.deref-in-loop-made.ensures.value at (c.in_ok-event.ensures c.if-not-branch-2.false)) (take c.loop-made.at (log_in log)) old ring
          (c.loop-made.invariant.so_far old ring before));
    }

pub returns : goal.returns
returns c = λ whole.
    let log = c.args.log.now in
    let all : c.loop-made.at ≡ length log.events.now = eqb-true c.loop-made.at (length log.events.now) whole in
    let read : take c.loop-made.at (log_in log) ≡ log_in log =
    take_all c.loop-made.at (log_in log) (omega (arith, all, length-map log.events.now happening_of)) in
    rw read at c.loop-made.invariant.so_far
