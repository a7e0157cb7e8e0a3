use Rattle.check_flight.proofs.{arith, inl, inr, take, ⊎_elim, one_more_of, flight_view, log_in, runs_of_calls, IsStatePassed, runs_with, FlightState}
use Rattle.check_flight.proofs.{happening_of, each_view, passed_by, views_more}
use Rattle.check_flight.proofs.explore.pass_all.Goals as goal

pub loop-state-preserved : goal.loop-state-preserved
loop-state-preserved c =
    let items = c.deref-state-items.ensures.value in
    let states = c.args.front.now.states.items in
    let next = c.in_ok-take_in.ensures in
    let runs = runs_with (runs_of_calls c.args.calls.now) (happening_of c.args.event.now) in
    one_more_of
    (λ (state : FlightState). IsStatePassed c.args.log.now (runs_of_calls c.args.calls.now) (take c.args.at (log_in c.args.log.now))
    c.take_in.new.self.states.items (happening_of c.args.event.now) (flight_view (runs_of_calls c.args.calls.now) state)) states
    (λ k d low turn. ⊎_elim (λ stopped. inl stopped)
    (λ led. inr (led.0, views_more runs c.loop-state.nexts.states.items c.take_in.new.self.states.items next.kept led.0 led.1, led.2))
    (c.loop-state.invariant k d low turn))
    (rw items at c.loop-state-test.true) (rw items at c.state-item.is) (passed_by c.args.log.now (runs_of_calls c.args.calls.now)
    (take c.args.at (log_in c.args.log.now)) c.take_in.new.self.states.items c.state-item.result (happening_of c.args.event.now) c.in_ok-passage.passage
    c.in_ok-passage.ensures (next.taken c.if-not-branch.false))

pub returns : goal.returns
returns c = λ _.
    let log = c.args.log.now in
    let runs = runs_of_calls c.args.calls.now in
    each_view (IsStatePassed log runs (take c.args.at (log_in log)) c.loop-state.nexts.states.items (happening_of c.args.event.now)) (flight_view runs)
    c.args.front.now.states.items
    (λ k d low. c.loop-state.invariant k d (omega (arith, low, c.loop-state-test.false)))
