use Rattle.check_flight.proofs.{ℕ, IsReachedBy, IsReachedFrom, IsTableOf, Slots, catalogue_in, log_in, ring_of_slots}
use Rattle.check_flight.proofs.reached.ReachedStates.go_on.Given as goal

abbrev pub invariant-loop-at : goal.invariant-loop-at
invariant-loop-at l = (slots : Slots) → IsTableOf l.log slots → IsReachedFrom l.log slots (log_in l.log) l.fn.self
    → (submissions registrations : ℕ)
    → IsReachedBy l.log.whole (ring_of_slots (catalogue_in l.log) slots submissions registrations) (log_in l.log) l.at l.calls.items l.front.states.items
