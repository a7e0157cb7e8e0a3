use Rattle.check_flight.proofs.{runs_of_calls, without_first}
use Rattle.check_flight.proofs.state.trimmed.Goals as goal

pub returns : goal.returns
returns c =
    without_first (runs_of_calls c.args.calls.now) c.args.state.now c.count_over-count.result c.count_over-count.ensures.over c.in_ok-same.same
    c.in_ok-same.ensures
