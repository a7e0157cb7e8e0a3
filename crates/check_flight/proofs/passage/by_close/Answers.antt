use Rattle.check_flight.proofs.{ap, runs_of_calls, FlightView, copied}
use Rattle.check_flight.proofs.passage.by_close.Goals as goal

pub returns : goal.returns
returns c = λ read.
    let copy = c.in_ok-next.ensures in
    record {
      table = copy.table;
      rests = ap (λ (view : FlightView). view.rests) (copied (runs_of_calls c.args.calls.now) c.args.state.now c.in_ok-next.next copy);
      removed = rw copy.removed at c.remove_file.ensures.others;
      waiting = copy.waiting;
    }
