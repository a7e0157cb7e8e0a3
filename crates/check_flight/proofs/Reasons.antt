-- A verdict with a reason is right.
use Rattle.check_flight.proofs.{◌≡◌, ℕ, ◌+◌, ◌<◌, ◌∙◌, ap, refl, length, List, Option, None, Some, take, take-map, subst, all_happenings}
use Rattle.check_flight.proofs.{happening_of, ring_of_slots, Happening, HaveNoFlight, JudgedLog, Slots, catalogue_in, log_in, IsLegalLog, IsRight}
use Rattle.std.specs.Prelude.{IfSome}
use Rattle.check_flight.specs.declared.verdict.FlightVerdict.TheVariants.{NotLegal}
use Rattle.check_reason.specs.declared.reason.LogReason.{LogReason}

module _ (log : JudgedLog) (slots : Slots) where
  -- the clauses of `explain`, of the reason that it returns
  pub explained_right : (count at : ℕ) (reason : Option LogReason) → at + 1 ≡ count → IfSome reason (λ r. r.count ≡ count)
      → IfSome reason (λ r. 0 < length r.steps.items)
      → IfSome reason (λ r. (submissions registrations : ℕ) → IsLegalLog (ring_of_slots (catalogue_in log) slots submissions registrations)
      (all_happenings (take count log.events.now)) → ⊥)
      → (reason ≡ None → HaveNoFlight log slots count) → IsRight log slots (NotLegal at reason)
  explained_right count at None is counted steps refuted none = (rw is (none refl), tt)
  explained_right count at (Some reason) is counted steps refuted none = (
    λ submissions registrations (legal, whole) memory. refuted submissions registrations
        (subst (λ (l : List Happening). IsLegalLog (ring_of_slots (catalogue_in log) slots submissions registrations) l)
        (ap (λ (n : ℕ). take n (log_in log)) is ∙ take-map happening_of count log.events.now) legal),
    rw is (record { counted = counted; steps = steps; refuted = refuted }),
  )
