use Rattle.check_flight.proofs.explore.is_wait_denied.Goals as goal

pub returns-then-is_out_of_turn : goal.returns-then-is_out_of_turn
returns-then-is_out_of_turn c = λ _ found permits turn. absurd (c.is_out_of_turn.ensures c.if-is_out_of_turn.true turn)

pub returns : goal.returns
returns c = λ it found permits turn. c.waits.ensures it found permits
