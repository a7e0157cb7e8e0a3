use Rattle.check_flight.proofs.{◌≤◌, arith, length, take, IfOk-weaker, length-map, length-take-le, happening_of, catalogue_in, log_in, ring_of_slots}
use Rattle.check_flight.proofs.{reached_by, reached_longer}
use Rattle.check_flight.proofs.verdict.saved_before.Goals as goal

pub returns-in-Some : goal.returns-in-Some
returns-in-Some c = λ longer low submissions registrations.
    let log = c.args.log.now in
    let few = c.saturating_sub.result in
    let own = c.beginning_of-beginning in
    let end = c.in-Some.saved in
    let within : few ≤ length (log_in log) = omega (arith, c.saturating_sub.ensures, c.requires.count, length-map log.events.now happening_of) in
    let (to, whole) = reached_by log own.result c.args.slots.now (take few (log_in log)) c.in_ok-first.first end own.ensures.events
    own.ensures.catalogue own.ensures.size own.ensures.whole c.requires.size (rw c.in-Some.is at c.in_ok-saved.ensures)
    (λ s r. c.in_ok-first.ensures log.whole (catalogue_in log) (take few (log_in log)) s r) in
    let own_at : end.at ≤ few = omega (arith, whole, length-take-le few (log_in log) within) in
    reached_longer log.whole (ring_of_slots (catalogue_in log) c.args.slots.now submissions registrations) (log_in log) few longer end.at end.calls.items
    end.front.states.items (omega (arith, c.saturating_sub.ensures, low)) own_at (to submissions registrations)

pub returns-in-None : goal.returns-in-None
returns-in-None c =
    let log = c.args.log.now in
    IfOk-weaker c.first-in-None.result _ _
    (λ saved all longer low submissions registrations. all log.whole (catalogue_in log) (take longer (log_in log)) submissions registrations)
    c.first-in-None.ensures
