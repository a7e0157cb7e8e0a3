-- The meaning of a verdict's reason.
use Rattle.check_flight.specs.Words.{ℕ, List, length, take, FileEntry, ring_of_slots, Slots}
use Rattle.check_flight.specs.Words.{all_happenings, IsLegalLog, LogReason}
use Rattle.std.specs.Prelude.{◌≡◌, ◌<◌}
use Rattle.fx_flight.specs.declared.event.LogEvent.{LogEvent}

-- the reason is one that `check_reason::explain` returns for the first `count` events, from these
-- slots on: each field is a clause of it
pub record IsReasonOf (catalogue : List FileEntry) (slots : Slots) (events : List LogEvent)
    (count : ℕ) (reason : LogReason) : Type 0 where
  pub counted : reason.count ≡ count
  pub steps : 0 < length reason.steps.items
  pub refuted : (submissions registrations : ℕ)
      → IsLegalLog (ring_of_slots catalogue slots submissions registrations)
      (all_happenings (take count events)) → ⊥
