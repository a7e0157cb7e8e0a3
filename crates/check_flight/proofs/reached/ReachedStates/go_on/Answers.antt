use Rattle.check_flight.proofs.{ℕ, arith, subst, length-map, happening_of, IsReachedBy, catalogue_in, log_in, ring_of_slots, reached_next}
use Rattle.check_flight.proofs.reached.ReachedStates.go_on.Goals as goal

pub loop-at-init : goal.loop-at-init
loop-at-init c = λ slots size before submissions registrations. before submissions registrations

pub loop-at-preserved : goal.loop-at-preserved
loop-at-preserved c = λ slots size before submissions registrations.
    let events = c.args.log.now.events.now in
    reached_next c.args.log.now slots submissions registrations c.loop-at.at c.loop-at.calls.items c.advance.new.calls.items
    c.loop-at.front.states.items c.advance.new.front.states.items size
    (omega (arith, c.loop-at-test.true, length-map events happening_of)) (c.loop-at.invariant slots size before submissions registrations)
    (c.in_ok-advance.ensures c.if-not-branch.false)

pub returns : goal.returns
returns c = λ slots size before.
    let log = c.args.log.now in
    let whole = length-map log.events.now happening_of in (
      λ submissions registrations.
          let own = c.loop-at.invariant slots size before submissions registrations in
          subst (λ (n : ℕ). IsReachedBy log.whole (ring_of_slots (catalogue_in log) slots submissions registrations) (log_in log) n c.loop-at.calls.items
          c.loop-at.front.states.items) (omega (arith, own.within, c.loop-at-test.false, whole)) own,
      omega (arith, whole),
    )
