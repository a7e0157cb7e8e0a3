-- Flights by whole updates: each call makes the accesses of one member together. Only an update
-- makes more than one.
use Rattle.fx_flight.specs.Words.{ℕ, List, [], take, Bool, IsTrue, true, Completed, Asked}
use Rattle.fx_flight.specs.Words.{RingState, IsChainDone, Access}
use Rattle.std.specs.Prelude.{◌≡◌, ◌⊎◌, ◌∷◌, ◌++◌}
use Rattle.fx_flight.specs.Events.{Happening, Called, LookCalled, first_of_call}
use Rattle.fx_flight.specs.Flight.{FlightSetting, Moment, Logged, Accesses, WasLogged, made_by}
use Rattle.fx_flight.specs.Flight.{IsLegalLog}

-- the accesses are those of the first members of a chain, which answer as the call does
pub record AreOfMembers (s : FlightSetting) (id : ℕ) (requests : List Asked) (made : List Access)
    : Type 0 where
  -- the number of these members
  pub count : ℕ
  -- their answers, and those of the members after them
  pub answered : List Completed
  pub later : List Completed
  pub answer : s.answers id ≡ answered ++ later
  pub done : IsChainDone s.old.catalogue s.old.size (s.first id) (take count requests) made answered

-- after this flight, no member of the call has made some of its accesses and not the others: the
-- call has made none, or is a look, or has made those of its first members
abbrev pub IsBetweenMembers : FlightSetting → List Moment → ℕ → Type 0
IsBetweenMembers s flight id =
    (made_by id flight ≡ [])
    ⊎ (((slot : ℕ) × WasLogged flight (LookCalled id slot))
    ⊎ ((requests : List Asked) × WasLogged flight (Called id requests)
    × AreOfMembers s id requests (made_by id flight)))

-- the moment isn't an access of the call
abbrev pub IsOfOthers : Moment → ℕ → Type 0
IsOfOthers (Logged event) id = Unit {0}
IsOfOthers (Accesses x) id = x.chain ≡ id → ⊥

-- at each moment, all calls are between members, but for the one whose access the moment is
abbrev pub IsWhole : FlightSetting → List Moment → Type 0
IsWhole s [] = Unit {0}
IsWhole s (moment ∷ flight) =
    IsWhole s flight × ((id : ℕ) → IsOfOthers moment id → IsBetweenMembers s flight id)

-- the flight is whole, if that is required
abbrev pub IsWholeIf : Bool → FlightSetting → List Moment → Type 0
IsWholeIf whole s flight = IsTrue whole → IsWhole s flight

-- there is a flight of the log; with `whole` it is one by whole updates
abbrev pub IsLegalBy : Bool → RingState → List Happening → Type 0
IsLegalBy whole old log = (is : IsLegalLog old log)
    × IsWholeIf whole (record { old = old; first = first_of_call; answers = is.answers }) is.flight

abbrev pub IsLegalByWholeUpdates : RingState → List Happening → Type 0
IsLegalByWholeUpdates old log = IsLegalBy true old log

-- a log that is legal by whole updates is legal
abbrev pub EachLogOfWholeUpdatesIsLegal : Type 0
EachLogOfWholeUpdatesIsLegal =
    (old : RingState) (log : List Happening) → IsLegalByWholeUpdates old log → IsLegalLog old log

-- each beginning of a log that is legal by whole updates is legal by whole updates
abbrev pub EachBeginningIsLegalByWholeUpdates : Type 0
EachBeginningIsLegalByWholeUpdates =
    (old : RingState) (front rest : List Happening) → IsLegalByWholeUpdates old (front ++ rest)
    → IsLegalByWholeUpdates old front
