use Rattle.check_flight.proofs.{inr, runs_of_calls}
use Rattle.check_flight.proofs.passage.is_stopped.Goals as goal

pub returns-else-is_found_closed : goal.returns-else-is_found_closed
returns-else-is_found_closed c = λ it. rw c.in-Found.is (inr (c.is_unmade.ensures it (runs_of_calls c.args.calls.now)))

pub returns-else-not-contains : goal.returns-else-not-contains
returns-else-not-contains c = λ it. rw c.in-Closed.is (inr (c.is_held.ensures it))
