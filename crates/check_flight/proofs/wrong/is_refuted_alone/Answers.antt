use Rattle.check_flight.proofs.{take, catalogue_in, log_in}
use Rattle.check_flight.proofs.wrong.is_refuted_alone.Goals as goal

pub returns-in-Some : goal.returns-in-Some
returns-in-Some c = λ yes submissions registrations.
    let log = c.args.log.now in
    (rw c.in-Some.is at c.in_ok-at.ensures) c.args.slots.now c.requires
    (λ s r. c.in_ok-first.ensures log.whole (catalogue_in log) (take c.args.count (log_in log)) s r) submissions registrations
