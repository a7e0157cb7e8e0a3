-- Files that may be at a slot just before an access.
use Rattle.check_certificate.specs.Words.{ℕ, ℤ, pos, negsuc, Bool, true, false, slice_index_or}
use Rattle.check_certificate.specs.Words.{None, Identity, Intent, Allocate, OnlyFile, Nothing}
use Rattle.check_certificate.specs.Words.{PutBefore, GoneAfter, Holding, Point, Gone, Evidence}
use Rattle.check_certificate.specs.Words.{Removes, Sees, Full}
use Rattle.std.specs.Prelude.{◌≡◌, ◌+◌, ◌<◌, ◌≤◌}
use Rattle.fx_chain.specs.declared.intent.Intent.TheVariants.{Put}
use Rattle.check_certificate.specs.Evidence.{slot_count}
use Rattle.check_certificate.specs.Forced.{TimedFlight}
use Rattle.check_certificate.specs.declared.beginning.LogBeginning.{LogBeginning}
use Rattle.check_certificate.specs.declared.certificate.Point.TheVariants.{Access, Put as Installed}

-- a number below 0
abbrev pub is_negative : ℤ → Bool
is_negative (pos n) = false
is_negative (negsuc n) = true

-- an access with this evidence finds a file at the slot
abbrev pub FindsFile : LogBeginning → Evidence → ℕ → Type 0
FindsFile b (Removes own) slot = own ≡ slot
FindsFile b (Sees own) slot = own ≡ slot
FindsFile b Full slot =
    (slot < slot_count b) × (b.slots.now.range.0 ≤ slot)
    × (slot < b.slots.now.range.0 + b.slots.now.range.1)
FindsFile b evidence slot = ⊥

-- the slot is empty before the log
abbrev pub IsEmptyAtFirst : LogBeginning → ℕ → Type 0
IsEmptyAtFirst b slot = slice_index_or b.slots.now.at.items slot None ≡ None

-- the times of each flight's points are so
abbrev pub IsInEach : LogBeginning → ((Point → ℕ) → Type 0) → Type 0
IsInEach b claim = (f : TimedFlight b) → claim f.at

-- the file is the one that an access may find
abbrev pub IsOnlyFile : OnlyFile → Identity → Type 0
IsOnlyFile Nothing file = ⊥
IsOnlyFile (PutBefore own) file = own ≡ file
IsOnlyFile (GoneAfter own) file = own ≡ file

-- the file isn't at the slot just before the access
abbrev pub IsAbsent : LogBeginning → Holding → Identity → Type 0
IsAbsent b h file =
    IsInEach b (λ at. at (Installed file) < at (Access h.answer h.access)
    → at (Access h.answer h.access) ≤ at (Gone file h.slot) → ⊥)

-- the access that is intended may install the file at the slot
abbrev pub MayInstall : Intent → ℕ → Identity → Type 0
MayInstall (Put own file) slot other = (own ≡ slot) × (file ≡ other)
MayInstall (Allocate file) slot other = file ≡ other
MayInstall intent slot other = ⊥

-- what the access may install is absent, but for the file that is found
abbrev pub InstallsNone : LogBeginning → Holding → Intent → Type 0
InstallsNone b h intent =
    (file : Identity) → MayInstall intent h.slot file → (IsOnlyFile h.found file → ⊥)
    → IsAbsent b h file
