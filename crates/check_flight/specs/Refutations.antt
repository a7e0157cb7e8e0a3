-- Refutations of a log: all states that flights reach, event by event, until none is left.
use Rattle.check_flight.specs.Words.{Bool, List, [], length, Contains, Asked, RingState, Happening}
use Rattle.check_flight.specs.Words.{rules_of}
use Rattle.std.specs.Prelude.{◌≡◌, ◌++◌, ◌∷◌}
use Rattle.check_flight.specs.States.{AreFollowed, ArePassed, HasNoFlightBy, IsNumbered, GoesOnTo}
use Rattle.check_flight.specs.States.{FlightView, runs_with}

-- these states follow: those to which the event leads, and each one that accesses reach from them
pub record AreNext (whole : Bool) (old : RingState) (log : List Happening)
    (runs : List (List Asked)) (read : List Happening) (states : List FlightView)
    (event : Happening) (nexts : List FlightView) : Type 0 where
  pub numbered : IsNumbered (length runs) event
  pub passed : ArePassed whole (rules_of old.catalogue old.size) log runs read states nexts event
  pub closed : AreFollowed whole old.catalogue old.size log (length (runs_with runs event)) nexts

-- from these states on, which follow what was read, no state is left after the other events
abbrev pub IsRefutedFrom : Bool → RingState → List Happening → List (List Asked) → List Happening
    → List FlightView → List Happening → Type 0
IsRefutedFrom whole old log runs read states [] = states ≡ []
IsRefutedFrom whole old log runs read states (event ∷ rest) =
    (nexts : List FlightView) × AreNext whole old log runs read states event nexts
    × IsRefutedFrom whole old log (runs_with runs event) (read ++ event ∷ []) nexts rest

-- a log's first states, with which it is refuted; with `whole` as a log by whole updates
pub record IsRefutation (whole : Bool) (old : RingState) (log : List Happening)
    (states : List FlightView) : Type 0 where
  pub start : FlightView
  pub inside : Contains states start
  pub leads : GoesOnTo old [] [] start
  pub closed : AreFollowed whole old.catalogue old.size log 0 states
  pub refuted : IsRefutedFrom whole old log [] [] states log

-- a log that is refuted has no flight in which each request finds memory; with `whole` none by
-- whole updates
abbrev pub EachRefutationIsRight : Type 0
EachRefutationIsRight =
    (whole : Bool) (old : RingState) (log : List Happening) (states : List FlightView)
    → IsRefutation whole old log states → HasNoFlightBy whole old log
