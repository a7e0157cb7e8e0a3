use Rattle.check_flight.proofs.verdict.is_refuted_from.Goals as goal

pub returns-in-Some : goal.returns-in-Some
returns-in-Some c = λ yes submissions registrations.
    (rw c.in-Some.is at c.in_ok-at.ensures) c.args.slots.now c.requires.size (λ s r. c.in_ok-from.ensures _ _ _ (c.requires.saved s r))
    submissions registrations
