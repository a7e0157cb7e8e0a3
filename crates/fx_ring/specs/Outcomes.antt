-- The outcomes of workers, as lists that have their room from the start.
use Rattle.std.specs.Prelude.{◌≡◌, ◌≤◌, ℕ, List, [], length, All, vec_capacity}
use Rattle.fx_chain.specs.Operation.{Asked}
use Rattle.fx_chain.specs.Weights.{all_weights}
use Rattle.fx_ring.specs.declared.outcome.Outcome.{Outcome}
use Rattle.fx_ring.specs.declared.crew.Room.{Room}

-- nothing has come yet, and there is room for a completion of each request and for all files that
-- the requests may close
pub record HasRoomFor (requests : List Asked) (outcome : Outcome) : Type 0 where
  pub no_completions : outcome.completions.items ≡ []
  pub room : length requests ≤ vec_capacity outcome.completions
  pub closes : outcome.closes ≡ record { files = []; room = all_weights requests }

-- the same for this number of workers, and for all of them together
pub record HasRoomForCrew {P : Type 0} (requests : List Asked) (workers : ℕ) (room : Room P)
    : Type 0 where
  pub nobody : room.crew.items ≡ []
  pub crew : workers ≤ vec_capacity room.crew
  pub count : length room.outcomes.items ≡ workers
  pub outcomes : All (HasRoomFor requests) room.outcomes.items
  pub all : HasRoomFor requests room.all
