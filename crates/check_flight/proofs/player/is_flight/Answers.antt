use Rattle.check_flight.proofs.{refl, sym, IfOk-weaker, catalogue_in, IsRingOf, answers_in, ring_of_slots, moves_first}
use Rattle.check_flight.proofs.player.is_flight.Goals as goal

pub returns : goal.returns
returns c =
    let log = c.args.log.now in
    let plans = c.args.plan.now.calls.items in
    IfOk-weaker c.play.result _ _
    (λ yes moves whole submissions registrations.
    let old = ring_of_slots (catalogue_in log) c.args.slots.now submissions registrations in
    let ring : IsRingOf old log = record { catalogue = refl; size = sym c.requires } in
    let begun = moves_first old log plans ring c.in_ok-player.player c.in_ok-player.ensures.slots c.in_ok-player.ensures.calls
    c.in_ok-player.ensures.removed in
    let made = moves whole old ring begun in
    (record { answers = answers_in plans; flight = made.flight; is = made.is; same = made.logged }, made.whole))
    c.play.ensures
