use Rattle.check_flight.proofs.{ap, FlightView}
use Rattle.check_flight.proofs.passage.passage_of.Goals as goal

pub returns-then-is_out_of_turn : goal.returns-then-is_out_of_turn
returns-then-is_out_of_turn c = λ turn. absurd (c.is_out_of_turn.ensures c.if-is_out_of_turn.true turn)

pub returns-then-is_stopped : goal.returns-then-is_stopped
returns-then-is_stopped c = λ _. c.is_stopped.ensures c.if-is_stopped.true

pub returns-in_ok-trimmed-in-Found : goal.returns-in_ok-trimmed-in-Found
returns-in_ok-trimmed-in-Found c =
    let same = c.in_ok-trimmed-in-Found.ensures in
    let waiting = ap (λ (view : FlightView). view.waiting) same in
    rw c.in-Found.is (record {
      table = ap (λ (view : FlightView). view.table) same;
      rests = ap (λ (view : FlightView). view.rests) same;
      removed = ap (λ (view : FlightView). view.removed) same;
      waiting = λ look inside. rw waiting at inside;
    })
