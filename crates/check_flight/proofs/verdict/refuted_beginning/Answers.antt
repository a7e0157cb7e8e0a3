use Rattle.check_flight.proofs.{take, catalogue_in, log_in, length}
use Rattle.check_flight.proofs.verdict.refuted_beginning.Goals as goal

pub shortest_refuted-requires-clause-refuted : goal.shortest_refuted-requires-clause-refuted
shortest_refuted-requires-clause-refuted c = λ submissions registrations.
    let log = c.args.log.now in
    (rw c.in-Some.is at c.in_ok-at.ensures) c.args.slots.now c.requires
    (λ s r. c.in_ok-first.ensures log.whole (catalogue_in log) (take (length log.events.now) (log_in log)) s r) submissions registrations
