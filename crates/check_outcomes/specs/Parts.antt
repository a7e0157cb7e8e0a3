-- Chains that share no slot are in different parts of a submission, and no access of one part
-- matters to another. So the parts may be played one after another.
use Rattle.std.specs.Prelude.{◌≡◌, ◌+◌, ◌<◌, ◌∷◌}
use Rattle.check_outcomes.specs.Words.{ℕ, List, [], All, MayReach, Operation, Asked, Table}

-- the number of the part that each chain is in, by the chain's number from 1, and of the part that
-- each slot belongs to
pub record Parts : Type 0 where
  pub of_chain : ℕ → ℕ
  pub of_slot : ℕ → ℕ

-- each slot of the table that the request may reach belongs to this part
abbrev pub StaysIn : Table → (ℕ → ℕ) → ℕ → Operation → Type 0
StaysIn table of_slot part operation =
    (slot : ℕ) → slot < table.size → MayReach table.range operation slot → of_slot slot ≡ part

-- the requests of each chain from this one on stay in the chain's part
abbrev pub AreParts : Table → Parts → ℕ → List (List Asked) → Type 0
AreParts table parts chain [] = Unit {0}
AreParts table parts chain (run ∷ runs) =
    All (λ request. StaysIn table parts.of_slot (parts.of_chain chain) request.operation) run
    × AreParts table parts (chain + 1) runs
