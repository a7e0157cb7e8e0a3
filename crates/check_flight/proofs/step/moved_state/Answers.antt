use Rattle.check_flight.proofs.step.moved_state.Goals as goal

pub returns-clause-waiting : goal.returns-clause-waiting
returns-clause-waiting c = rw c.deref-2.ensures.value at c.in_ok-next-3.ensures
