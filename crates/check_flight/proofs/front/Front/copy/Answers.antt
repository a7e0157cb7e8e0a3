use Rattle.check_flight.proofs.{arith, ap, ◌∙◌, take_all, flight_views, views_copied}
use Rattle.check_flight.proofs.front.Front.copy.Goals as goal

pub loop-state-preserved : goal.loop-state-preserved
loop-state-preserved c = λ runs.
    views_copied runs c.args.self.now.states.items c.loop-state.copy.states.items c.push.new.self.items c.deref-state-items.result.now
    c.loop-state.state-index c.state-item.result c.in_ok-copy.field-0 c.deref-state-items.ensures.value c.loop-state-test.true c.state-item.is
    c.in_ok-copy.ensures c.in_ok-push.ensures.items (c.loop-state.invariant runs)

pub returns : goal.returns
returns c = λ runs.
    let states = c.args.self.now.states.items in
    c.loop-state.invariant runs ∙ ap (flight_views runs)
    (take_all c.loop-state.state-index states (omega (arith, c.loop-state-test.false, c.deref-state-items.ensures.len)))
