-- The times of the points of a flight: the number of moments before each.
use Rattle.check_certificate.specs.Words.{ℕ, List, length, slice_get, Option, Some, ECANCELED}
use Rattle.check_certificate.specs.Words.{FileEntry, Identity, Completed, refusal, Asked, Table}
use Rattle.check_certificate.specs.Words.{IsRequestDone, Puts, Allocates, Happening, Called}
use Rattle.check_certificate.specs.Words.{Answered, LookCalled, LookAnswered, Moment, Logged}
use Rattle.check_certificate.specs.Words.{Accesses, WasLogged, log_of, table_left_by, FlightSetting}
use Rattle.check_certificate.specs.Words.{IsLookDone, made_by, Point, Event, Gone}
use Rattle.std.specs.Prelude.{◌≡◌, ◌⊎◌, ◌-◌, ◌<◌, ◌≤◌, ◌∷◌, ◌++◌}
use Rattle.fx_order.specs.Order.{table_of}
use Rattle.fx_order.specs.declared.access.Access.{Access}
use Rattle.check_certificate.specs.declared.certificate.Point.TheVariants.{Put, Access as At}

-- the first one is what was before a moment of the other one, or the whole
abbrev pub IsOlderPart : List Moment → List Moment → Type 0
IsOlderPart part flight = (later : List Moment) × (flight ≡ later ++ part)

-- the access installs the file at the slot
abbrev pub IsPut : Access → ℕ → Identity → Type 0
IsPut (Puts own file removed) slot other = (own ≡ slot) × (file ≡ other)
IsPut (Allocates own file) slot other = (own ≡ slot) × (file ≡ other)
IsPut access slot other = ⊥

-- the file is at the slot after these moments
abbrev pub IsLeftAt : Table → List Moment → ℕ → Identity → Type 0
IsLeftAt table flight slot file = (table_left_by table flight).at slot ≡ Some file

-- a call made this access at this time
abbrev pub IsAccessAt : List Moment → ℕ → Access → ℕ → Type 0
IsAccessAt flight id a time =
    (earlier : List Moment)
    × IsOlderPart (Accesses (record { chain = id; access = a }) ∷ earlier) flight
    × (length earlier ≡ time)

-- the times of the accesses, by their numbers
abbrev pub AreTimesOf : List Moment → ℕ → List Access → (ℕ → ℕ) → Type 0
AreTimesOf flight id accesses times =
    (k : ℕ) (a : Access) → slice_get accesses k ≡ Some a → IsAccessAt flight id a (times k)

-- a member of a chain is canceled, and isn't the first one; or it makes these accesses
abbrev pub IsMemberDoneBy : List FileEntry → ℕ → Completed → Asked → List Access → Type 0
IsMemberDoneBy catalogue size c request accesses =
    ((c ≡ refusal c.place ECANCELED) × (1 < c.place.member))
    ⊎ IsRequestDone catalogue size c.place request.operation accesses c

-- a member of a chain whose answer comes next made its accesses at these times
pub record AreMemberTimes (s : FlightSetting) (flight : List Moment) (id : ℕ) (c : Completed)
    (times : ℕ → ℕ) : Type 0 where
  pub requests : List Asked
  pub called : WasLogged flight (Called id requests)
  pub request : Asked
  pub asked : slice_get requests (c.place.member - 1) ≡ Some request
  pub accesses : List Access
  pub done : IsMemberDoneBy s.old.catalogue s.old.size c request accesses
  pub made : AreTimesOf flight id accesses times
  -- the first member of a call makes the first accesses
  pub first : c.place.member ≡ 1 → (k : ℕ) (a : Access) (got : slice_get accesses k ≡ Some a)
      → length (made_by id (made k a got).0) ≡ k

-- and a look
pub record AreLookTimes (s : FlightSetting) (flight : List Moment) (id : ℕ)
    (found : Option Identity) (times : ℕ → ℕ) : Type 0 where
  pub slot : ℕ
  pub called : WasLogged flight (LookCalled id slot)
  pub accesses : List Access
  pub done : IsLookDone s.old.size slot accesses found
  pub made : AreTimesOf flight id accesses times

-- what the next event answers made its accesses at these times
abbrev pub AreAccessTimes : FlightSetting → List Moment → Happening → (ℕ → ℕ) → Type 0
AreAccessTimes s flight (Answered id c) times = AreMemberTimes s flight id c times
AreAccessTimes s flight (LookAnswered id found) times = AreLookTimes s flight id found times
AreAccessTimes s flight event times = Unit {0}

-- an event comes at this time, after these ones
pub record IsEventTime (s : FlightSetting) (flight : List Moment) (front : List Happening)
    (event : Happening) (time : ℕ) (times : ℕ → ℕ) : Type 0 where
  pub earlier : List Moment
  pub part : IsOlderPart (Logged event ∷ earlier) flight
  pub same : log_of earlier ≡ front
  pub count : length earlier ≡ time
  pub accesses : AreAccessTimes s earlier event times

-- each access that installs the file does so at this time, which is the end if there is none
pub record IsPutTime (flight : List Moment) (file : Identity) (time : ℕ) : Type 0 where
  pub each : (id slot at : ℕ) (a : Access) → IsPut a slot file → IsAccessAt flight id a at
      → at ≡ time
  pub some : ((id : ℕ) × (slot : ℕ) × (a : Access) × IsPut a slot file
      × IsAccessAt flight id a time) ⊎ (length flight ≤ time)

-- this is the last time at which the file is at the slot, 0 if it never is
pub record IsGoneTime (table : Table) (flight : List Moment) (file : Identity) (slot time : ℕ)
    : Type 0 where
  pub last : (part : List Moment) → IsOlderPart part flight → IsLeftAt table part slot file
      → length part ≤ time
  pub there : (time ≡ 0)
      ⊎ ((part : List Moment) × IsOlderPart part flight × IsLeftAt table part slot file
      × (length part ≡ time))

-- these are the times of the points of a flight
pub record AreTimes (s : FlightSetting) (flight : List Moment) (at : Point → ℕ) : Type 0 where
  pub event : (front : List Happening) (event : Happening) (rest : List Happening)
      → log_of flight ≡ front ++ event ∷ rest
      → IsEventTime s flight front event (at (Event (length front)))
      (λ k. at (At (length front) k))
  pub put : (file : Identity) → IsPutTime flight file (at (Put file))
  pub gone : (file : Identity) (slot : ℕ)
      → IsGoneTime (table_of s.old) flight file slot (at (Gone file slot))
