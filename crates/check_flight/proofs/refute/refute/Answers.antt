use Rattle.check_flight.proofs.{◌∙◌, arith, sym, take, eqb-true, catalogue_in, log_in, ring_of_slots, reached_by, reached_last}
use Rattle.check_flight.proofs.refute.refute.Goals as goal

pub returns-then-is_empty : goal.returns-then-is_empty
returns-then-is_empty c = λ slots size from submissions registrations.
    let log = c.args.log.now in
    let events = take c.args.count (log_in log) in
    let own = c.beginning_of-beginning in
    let end = c.in-Some.end in
    let (to, whole) = reached_by log own.result slots events c.args.from end own.ensures.events own.ensures.catalogue own.ensures.size own.ensures.whole size
    (rw c.in-Some.is at c.in_ok-end.ensures) from in
    let none = eqb-true _ 0 (sym c.is_empty.ensures ∙ c.if-is_empty.true) in
    reached_last log.whole (ring_of_slots (catalogue_in log) slots submissions registrations) events end.at end.calls.items end.front.states.items whole
    (omega (arith, none, end.front.states.ok.0)) (to submissions registrations)
