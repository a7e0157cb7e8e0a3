-- Accesses that may take a file from its slot.
use Rattle.check_certificate.specs.Words.{ℕ, List, length, slice_get, Option, Some, None, Identity}
use Rattle.check_certificate.specs.Words.{Completed, Operation, Place, Intent, Clear, Take, Look}
use Rattle.check_certificate.specs.Words.{Allocate, Moment, made_by, IsOf, IsRequestDone, Clears}
use Rattle.check_certificate.specs.Words.{Puts, Takes, Point, Gone, Leaving, MemberAccess}
use Rattle.std.specs.Prelude.{◌≡◌, ◌++◌, ◌∷◌, ◌-◌}
use Rattle.fx_chain.specs.declared.intent.Intent.TheVariants.{Put}
use Rattle.fx_order.specs.declared.access.Access.{Access}
use Rattle.check_certificate.specs.Absent.{IsInEach}
use Rattle.check_certificate.specs.Evidence.{slot_count}
use Rattle.check_certificate.specs.Forced.{TimedFlight}
use Rattle.check_certificate.specs.Times.{IsAccessAt}
use Rattle.check_certificate.specs.declared.beginning.LogBeginning.{LogBeginning}

-- the slot from which an access that is intended takes a file, if it takes one
abbrev pub slot_taken : Intent → Option ℕ
slot_taken (Put slot file) = Some slot
slot_taken (Clear slot) = Some slot
slot_taken (Take slot) = Some slot
slot_taken (Look slot) = None
slot_taken (Allocate file) = None

-- the access takes the file from the slot, and leaves another one there or none
abbrev pub IsTaking : Access → ℕ → Identity → Type 0
IsTaking (Puts own new removed) slot file =
    (own ≡ slot) × (removed ≡ Some file) × (new ≡ file → ⊥)
IsTaking (Clears own removed) slot file = (own ≡ slot) × (removed ≡ Some file)
IsTaking (Takes own removed) slot file = (own ≡ slot) × (removed ≡ Some file)
IsTaking access slot file = ⊥

-- the call of a member makes this access at this time; it is the one with a number of those that
-- the member's request makes
pub record IsMadeAs (b : LogBeginning) (flight : List Moment) (answers : List Completed)
    (place : Place) (operation : Operation) (k : ℕ) (a : Access) (time : ℕ) : Type 0 where
  pub at : IsAccessAt flight place.submission a time
  -- the first member of a call makes the first accesses
  pub first : place.member ≡ 1 → length (made_by place.submission at.0) ≡ k
  -- the answer of the member, and its accesses
  pub c : Completed
  pub answer : slice_get answers (place.member - 1) ≡ Some c
  pub own : Place
  pub front : List Access
  pub rest : List Access
  pub done : IsRequestDone b.catalogue.now (slot_count b) own operation (front ++ a ∷ rest) c

-- the only access that may take the file is made when it leaves the slot
abbrev pub IsTakenThen : Option Point → Point → (Point → ℕ) → Type 0
IsTakenThen None gone at = ⊥
IsTakenThen (Some taker) gone at = at taker ≡ at gone

-- the point isn't at that time, unless it is that access
abbrev pub IsNoOther : LogBeginning → Leaving → Point → Type 0
IsNoOther b l point =
    IsInEach b (λ at. at point ≡ at (Gone l.file l.slot)
    → IsTakenThen l.taker (Gone l.file l.slot) at)

-- an access that is intended doesn't take the file, unless it is that access
abbrev pub TakesNone : LogBeginning → Leaving → Place → Operation → ℕ → Intent → Type 0
TakesNone b l place operation k intent =
    (f : TimedFlight b) (a : Access) → IsOf intent a → IsTaking a l.slot l.file
    → IsMadeAs b f.legal.flight (f.legal.answers place.submission) place operation k a
    (f.at (Gone l.file l.slot))
    → IsTakenThen l.taker (Gone l.file l.slot) f.at

-- an access doesn't take the file, whatever it is
abbrev pub IsNoTaker : LogBeginning → Leaving → MemberAccess → Type 0
IsNoTaker b l by =
    (operation : Operation) (intent : Intent) → TakesNone b l by.place operation by.access intent
