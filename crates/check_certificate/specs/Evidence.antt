-- Evidence in the answers of a log for accesses.
use Rattle.check_certificate.specs.Words.{ℕ, ℤ, pos, negsuc, List, length, slice_get, Option, Some}
use Rattle.check_certificate.specs.Words.{None, FileEntry, IsCatalogue, Identity, Completed, Asked}
use Rattle.check_certificate.specs.Words.{Intent, Look, Clear, Take, Allocate, Table, Permits}
use Rattle.check_certificate.specs.Words.{table_with, FindsFull, Looks, Takes, Happening, Called}
use Rattle.check_certificate.specs.Words.{Answered, LookCalled, LookAnswered, IsLookDone, Evidence}
use Rattle.check_certificate.specs.Words.{Empties, Full, Installs, Never, Removes, Sees}
use Rattle.std.specs.Prelude.{◌≡◌, ◌-◌}
use Rattle.fx_chain.specs.declared.intent.Intent.TheVariants.{Put}
use Rattle.fx_order.specs.declared.access.Access.{Access}
use Rattle.fx_flight.specs.Laws.{IsCallOf}
use Rattle.check_certificate.specs.Forced.{log_of_beginning}
use Rattle.check_certificate.specs.Times.{IsPut, IsMemberDoneBy}
use Rattle.check_certificate.specs.declared.beginning.LogBeginning.{LogBeginning}
use Rattle.check_certificate.specs.declared.evidence.Evidence.TheVariants.{Finds}

-- it is so of this access
abbrev pub IsEvident : Access → Evidence → Type 0
IsEvident a (Removes slot) = (file : Identity) × (a ≡ Takes slot (Some file))
IsEvident a (Sees slot) = (file : Identity) × (a ≡ Looks slot (Some file))
IsEvident a Full = a ≡ FindsFull
IsEvident a (Empties slot) = (table : Table) → Permits table a → (table_with table a).at slot ≡ None
IsEvident a (Installs slot file) = IsPut a slot file
IsEvident a (Finds slot file) = a ≡ Looks slot (Some file)
IsEvident a Never = ⊥

-- there is an access with this number, and it is so of that
abbrev pub IsEvidentOf : List Access → ℕ → Evidence → Type 0
IsEvidentOf accesses k evidence =
    (a : Access) × (slice_get accesses k ≡ Some a) × IsEvident a evidence

-- it is so of an access of a member, whatever accesses it made
abbrev pub IsEvidentByMember : List FileEntry → ℕ → Completed → Asked → ℕ → Evidence → Type 0
IsEvidentByMember catalogue size c request k evidence =
    (accesses : List Access) → IsMemberDoneBy catalogue size c request accesses
    → IsEvidentOf accesses k evidence

-- and of a look
abbrev pub IsEvidentByLook : ℕ → ℕ → Option Identity → ℕ → Evidence → Type 0
IsEvidentByLook size slot found k evidence =
    (accesses : List Access) → IsLookDone size slot accesses found → IsEvidentOf accesses k evidence

abbrev pub slot_count : LogBeginning → ℕ
slot_count b = length b.slots.now.at.items

-- the second event answers the call that the first one begins, and says this of an access
abbrev pub IsShownBy : LogBeginning → Happening → Happening → ℕ → Evidence → Type 0
IsShownBy b (Called id requests) (Answered other c) k evidence =
    (other ≡ id)
    × ((request : Asked) → slice_get requests (c.place.member - 1) ≡ Some request
    → IsEvidentByMember b.catalogue.now (slot_count b) c request k evidence)
IsShownBy b (LookCalled id slot) (LookAnswered other found) k evidence =
    (other ≡ id) × IsEvidentByLook (slot_count b) slot found k evidence
IsShownBy b begins ends k evidence = ⊥

-- the event at a position of the beginning
abbrev pub IsEventAt : LogBeginning → ℕ → Happening → Type 0
IsEventAt b at event = slice_get (log_of_beginning b) at ≡ Some event

-- it begins the call of this number
abbrev pub IsCallAt : LogBeginning → ℕ → ℕ → Type 0
IsCallAt b at id = (event : Happening) × IsEventAt b at event × IsCallOf id event

-- the events at these positions do
pub record IsAccessMade (b : LogBeginning) (call answer k : ℕ) (evidence : Evidence) : Type 0 where
  pub begins : Happening
  pub ends : Happening
  pub called : IsEventAt b call begins
  pub answered : IsEventAt b answer ends
  pub shows : IsCatalogue b.catalogue.now → IsShownBy b begins ends k evidence

-- the slot of an access, and the file that it leaves there, where the answer says so
abbrev pub left_at : Evidence → Option (ℕ × Option Identity)
left_at (Removes slot) = Some (slot, None)
left_at (Sees slot) = None
left_at Full = None
left_at (Empties slot) = Some (slot, None)
left_at (Installs slot file) = Some (slot, Some file)
left_at (Finds slot file) = Some (slot, Some file)
left_at Never = None

-- an open at any slot by its result
abbrev pub allocated_by : Identity → ℤ → Evidence
allocated_by file (pos slot) = Installs slot file
allocated_by file (negsuc n) = Full

-- a read
abbrev pub looked_by : ℕ → ℤ → Evidence
looked_by slot (pos n) = Sees slot
looked_by slot (negsuc n) = Empties slot

-- a close
abbrev pub taken_by : ℕ → ℤ → Evidence
taken_by slot (pos n) = Removes slot
taken_by slot (negsuc n) = Empties slot

-- what the result of a request says of the access that it intended
abbrev pub evidence_of : Intent → ℤ → Evidence
evidence_of (Put slot file) res = Installs slot file
evidence_of (Allocate file) res = allocated_by file res
evidence_of (Clear slot) res = Empties slot
evidence_of (Take slot) res = taken_by slot res
evidence_of (Look slot) res = looked_by slot res
