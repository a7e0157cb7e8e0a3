-- Chains of which no access matters any more.
use Rattle.std.specs.Prelude.{◌≡◌, ◌+◌, ◌<◌, ◌≤◌, ◌==◌, Bool, true, List, [], length}
use Rattle.check_outcomes.specs.Words.{list_all, Completed, is_read, Asked, Place}
use Rattle.check_outcomes.specs.Rests.{Rest}

abbrev pub are_reads : List Asked → Bool
are_reads requests = list_all (λ request. is_read request.operation) requests

-- the place is one of the requests that are left
pub record IsLeft (rest : Rest) (place : Place) : Type 0 where
  pub submission : place.submission ≡ rest.place.submission
  pub chain : place.chain ≡ rest.place.chain
  pub behind : rest.place.member ≤ place.member
  pub within : place.member < rest.place.member + length rest.requests

-- no request of the chain is left
abbrev pub has_none : Rest → Bool
has_none rest = length rest.requests == 0

-- of a chain that is idle nothing but reads is left, and whatever these answer is said; a chain
-- that is over is idle
pub record AreIdle (says : Completed → Type 0) (idle : Rest → Bool) : Type 0 where
  pub over : (rest : Rest) → rest.requests ≡ [] → idle rest ≡ true
  pub reads : (rest : Rest) → idle rest ≡ true
      → are_reads rest.requests ≡ true
  pub said : (rest : Rest) (c : Completed) → idle rest ≡ true → IsLeft rest c.place → says c
