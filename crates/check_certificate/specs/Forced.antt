-- The orders of points that every flight of a beginning keeps.
use Rattle.check_certificate.specs.Words.{ℕ, Bool, true, false, List, Option, Some, None, IfSome}
use Rattle.check_certificate.specs.Words.{IsTrue, list_all, IsCatalogue, Identity, Mark, Registered}
use Rattle.check_certificate.specs.Words.{Submitted, ring_of_slots, Happening, all_happenings}
use Rattle.check_certificate.specs.Words.{first_of_call, IsFaultless, IsLegalLog, PointOrder, Point}
use Rattle.std.specs.Prelude.{◌≡◌, ◌+◌, ◌≤◌}
use Rattle.fx_ring.specs.Ring.{RingState}
use Rattle.check_certificate.specs.Times.{AreTimes}
use Rattle.check_certificate.specs.declared.beginning.LogBeginning.{LogBeginning}

abbrev pub log_of_beginning : LogBeginning → List Happening
log_of_beginning b = all_happenings b.events.now

-- a ring with the beginning's slots
abbrev pub ring_of_beginning : LogBeginning → ℕ → ℕ → RingState
ring_of_beginning b submissions registrations =
    ring_of_slots b.catalogue.now b.slots.now submissions registrations

-- the mark is that of a registration
abbrev pub is_registered : Mark → Bool
is_registered (Registered k i) = true
is_registered (Submitted submission chain member entry) = false

-- the slot is empty, or its file has such a mark
abbrev pub is_of_no_call : Option Identity → Bool
is_of_no_call None = true
is_of_no_call (Some file) = is_registered file.mark

-- the file has the mark of a member of this call
abbrev pub IsOfCall : ℕ → Identity → Type 0
IsOfCall id file =
    (chain : ℕ) × (member : ℕ) × (entry : ℕ) × (file.mark ≡ Submitted id chain member entry)

-- the events are a log, and no file at a slot before it has the mark of a call
pub record IsSound (b : LogBeginning) : Type 0 where
  pub catalogue : IsCatalogue b.catalogue.now
  pub faultless : IsFaultless (log_of_beginning b)
  pub marks : IsTrue (list_all is_of_no_call b.slots.now.at.items)

abbrev pub gap_of : Bool → ℕ
gap_of true = 1
gap_of false = 0

-- the times of the points are in this order
abbrev pub IsInOrder : (Point → ℕ) → PointOrder → Type 0
IsInOrder at order = at order.from + gap_of order.strict ≤ at order.to

-- a flight of the beginning, with the times of its points, which keep the order that is supposed
pub record TimedFlight (b : LogBeginning) : Type 0 where
  pub submissions : ℕ
  pub registrations : ℕ
  pub sound : IsSound b
  pub legal : IsLegalLog (ring_of_beginning b submissions registrations) (log_of_beginning b)
  pub at : Point → ℕ
  pub times : AreTimes (record {
    old = ring_of_beginning b submissions registrations;
    first = first_of_call;
    answers = legal.answers;
  }) legal.flight at
  pub kept : IfSome b.supposed (IsInOrder at)

-- each flight of the beginning keeps the order
abbrev pub IsForced : LogBeginning → PointOrder → Type 0
IsForced b order = (f : TimedFlight b) → IsInOrder f.at order

-- each flight keeps the order if all keep this one
abbrev pub IsForcedBy : LogBeginning → PointOrder → PointOrder → Type 0
IsForcedBy b premise order = IsForced b premise → IsForced b order

-- or these two
abbrev pub IsForcedByBoth : LogBeginning → PointOrder → PointOrder → PointOrder → Type 0
IsForcedByBoth b one two order = IsForced b one → IsForced b two → IsForced b order

-- no flight of the beginning is left
abbrev pub IsContradicted : LogBeginning → Type 0
IsContradicted b =
    (submissions registrations : ℕ) → IsSound b
    → IsLegalLog (ring_of_beginning b submissions registrations) (log_of_beginning b) → ⊥
