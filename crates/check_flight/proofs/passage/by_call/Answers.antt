use Rattle.check_flight.proofs.{ap, arith, length, length-map, log_in, rules_of_log, runs_of_calls, all_asked, requests_of, FlightState, called}
use Rattle.check_flight.proofs.{denied_call}
use Rattle.check_flight.proofs.passage.by_call.Goals as goal

pub returns-then-is_one_denied : goal.returns-then-is_one_denied
returns-then-is_one_denied c = λ read _.
    let settled = rw (c.first_place.ensures, c.new-answered.ensures.items) at c.in_ok-done.ensures.recorded in
    denied_call (log_in c.args.log.now) (rules_of_log c.args.log.now) (length c.args.calls.now) (omega arith) (ap all_asked c.in-Some.ensures) settled
    (rw c.deref.ensures.value at (c.is_one_denied.ensures c.if-is_one_denied.true))

pub returns : goal.returns
returns c = λ read.
    let calls = c.args.calls.now in
    let next : FlightState = record c.in_ok-next.next { chains = c.push.new.self } in
    called (runs_of_calls calls) c.args.state.now c.in_ok-next.next next (length calls) c.in_ok-done.done (omega arith) (ap all_asked c.in-Some.ensures)
    (length-map calls requests_of) (omega arith) (omega (arith, c.args.state.now.chains.ok.0)) c.in_ok-next.ensures c.in_ok-push.ensures.items
    (rw c.first_place.ensures at c.in_ok-done.ensures.rest)
