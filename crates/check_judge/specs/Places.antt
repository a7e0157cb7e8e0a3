-- The places of an order's accesses: the member of a chain that makes each access, chain by chain.
use Rattle.std.specs.Prelude.{◌≡◌, ◌+◌, ◌==◌, ◌∷◌, ◌++◌}
use Rattle.check_judge.specs.Words.{ℕ, List, [], map, filter, length, take, Option, All, MatchBool}
use Rattle.check_judge.specs.Words.{FileEntry, Completed, next_member, canceled, first_member}
use Rattle.check_judge.specs.Words.{severs, Asked, Operation, Place, accesses_of_chain}
use Rattle.check_judge.specs.Words.{positions_of, IsRequestDone, Access, ChainAccess, AccessPlace}
use Rattle.check_judge.specs.Words.{Vec}

-- the place of an access: that of its request, and its position in the list of an update
abbrev pub place_at : Place → Option ℕ → AccessPlace
place_at place entry = record { chain = place.chain; member = place.member; entry = entry }

-- the places of the accesses that a request made
abbrev pub own_places : Place → Operation → List Access → List AccessPlace
own_places place operation own =
    map (place_at place) (take (length own) (positions_of operation))

-- the members of a chain from this place on make these accesses, one after another, and answer so,
-- as `IsChainDone` has it; and these are the places of the accesses
abbrev pub IsChainListed : List FileEntry → ℕ → Place → List Asked → List Access
    → List AccessPlace → List Completed → Type 0
IsChainListed catalogue size place [] accesses places completions =
    (accesses ≡ []) × (places ≡ []) × (completions ≡ [])
IsChainListed catalogue size place (request ∷ requests) accesses places completions =
    (own : List Access) × (others : List Access) × (behind : List AccessPlace)
    × (c : Completed) × (cs : List Completed)
    × (accesses ≡ own ++ others) × (completions ≡ c ∷ cs)
    × (places ≡ own_places place request.operation own ++ behind)
    × IsRequestDone catalogue size place request.operation own c
    × MatchBool (severs request c)
    ((others ≡ []) × (behind ≡ []) × (cs ≡ canceled (next_member place) requests))
    (IsChainListed catalogue size (next_member place) requests others behind cs)

abbrev pub places_of_chain : ℕ → List AccessPlace → List AccessPlace
places_of_chain chain places = filter (λ p. p.chain == chain) places

-- the same of the chains from this one on, each by its own accesses of the order
abbrev pub AreChainsListed : List FileEntry → ℕ → ℕ → ℕ → List (List Asked) → List ChainAccess
    → List AccessPlace → List Completed → Type 0
AreChainsListed catalogue size submission chain [] order places completions = completions ≡ []
AreChainsListed catalogue size submission chain (run ∷ runs) order places completions =
    (own : List Completed) × (others : List Completed) × (completions ≡ own ++ others)
    × IsChainListed catalogue size (first_member submission chain) run
    (accesses_of_chain chain order) (places_of_chain chain places) own
    × AreChainsListed catalogue size submission (chain + 1) runs order places others

-- the places of an order's accesses: each is of the chain that makes the access, and those of a
-- chain are of the members that make them
pub record AreAccessPlaces (catalogue : List FileEntry) (size submission : ℕ) (runs : List
    (List Asked))
    (completions : List Completed) (order : List ChainAccess) (places : List AccessPlace)
    : Type 0 where
  pub chains : map (λ p. p.chain) places ≡ map (λ x. x.chain) order
  pub members : AreChainsListed catalogue size submission 1 runs order places completions

-- the places of the chains from this one on, as `AreChainsListed` has them, each chain's in a list
-- of its own
abbrev pub AreListsOf : List FileEntry → ℕ → ℕ → ℕ → List (List Asked) → List ChainAccess
    → List (Vec AccessPlace) → List Completed → Type 0
AreListsOf catalogue size submission chain [] order lists completions =
    (lists ≡ []) × (completions ≡ [])
AreListsOf catalogue size submission chain (run ∷ runs) order lists completions =
    (first : Vec AccessPlace) × (later : List (Vec AccessPlace))
    × (own : List Completed) × (others : List Completed)
    × (lists ≡ first ∷ later) × (completions ≡ own ++ others)
    × IsChainListed catalogue size (first_member submission chain) run
    (accesses_of_chain chain order) first.items own
    × AreListsOf catalogue size submission (chain + 1) runs order later others

-- as many places as a chain has accesses in the order, and all of them of the chain
pub record IsListFor (order : List ChainAccess) (chain : ℕ) (places : List AccessPlace)
    : Type 0 where
  pub as_many : length places ≡ length (accesses_of_chain chain order)
  pub same : All (λ p. p.chain ≡ chain) places
