use Rattle.check_flight.proofs.{reached_first}
use Rattle.check_flight.proofs.reached.ReachedStates.first.Goals as goal

pub returns : goal.returns
returns c = λ whole catalogue log submissions registrations.
    reached_first whole c.args.slots.now catalogue log submissions registrations c.new.result.items c.in_ok-with.field-0.states.items c.in_ok-state.state
    c.new.ensures.items c.in_ok-with.ensures c.in_ok-state.ensures
