use Rattle.check_flight.proofs.verdict.decide_wholly.Goals as goal

pub explained-requires : goal.explained-requires
explained-requires c = λ _. rw c.in-Some.is at c.in_ok-shortest.ensures
