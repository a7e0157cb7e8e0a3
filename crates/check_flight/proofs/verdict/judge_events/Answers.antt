use Rattle.check_flight.proofs.{List, IfOk-weaker, happening_of, subst, take-map, Happening, HasNoFlightBy, ring_of_slots, ◌+◌}
use Rattle.check_flight.proofs.verdict.judge_events.Goals as goal

pub returns-clause-not_legal : goal.returns-clause-not_legal
returns-clause-not_legal c = IfOk-weaker c.decide.result _ _
    (λ verdict right at reason same submissions registrations.
    let is = rw same at right in
    subst (λ (l : List Happening). HasNoFlightBy c.args.whole (ring_of_slots c.args.catalogue.now c.args.slots.now submissions registrations) l)
    (take-map happening_of (at + 1) c.args.events.now) (is.0 submissions registrations))
    c.decide.ensures
