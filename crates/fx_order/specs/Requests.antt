-- The answers that a request may get when it is done at once, by its accesses of a table of the
-- given size: it makes the accesses that it intends, and answers by what they found. And the
-- answers of a chain.
use Rattle.fx_order.specs.Words.{ℕ, List, [], Some, MatchOption, AllZip, ENOMEM, FileEntry}
use Rattle.fx_order.specs.Words.{Completed, refusal, next_member, canceled, first_member, severs}
use Rattle.fx_order.specs.Words.{IsOpened, answer_at_table, bytes_asked, intents_of, Operation}
use Rattle.fx_order.specs.Words.{Asked, refusal_of, Place, Access, ChainAccess}
use Rattle.std.specs.Prelude.{◌≡◌, ◌⊎◌, ◌+◌, ◌<◌, ◌∷◌, ◌++◌}
use Rattle.std.specs.Bool.{MatchBool}
use Rattle.fx_base.specs.declared.errno.Errno.{Errno}
use Rattle.fx_order.specs.Access.{IsOf, accesses_of_chain, entry_installed, last_finding}

-- the request didn't reach the table, and fails
abbrev pub IsRefused : Place → Errno → List Access → Completed → Type 0
IsRefused place errno accesses c = (accesses ≡ []) × (c ≡ refusal place errno)

-- the request asks for bytes, finds no memory for them, and makes no access
abbrev pub LacksMemory : Place → Operation → List Access → Completed → Type 0
LacksMemory place operation accesses c =
    (0 < bytes_asked operation) × IsRefused place ENOMEM accesses c

-- the accesses are those that the request intends, in order
abbrev pub AreIntended : List FileEntry → Place → Operation → List Access → Type 0
AreIntended catalogue place operation accesses =
    (entry : ℕ) × IsOpened catalogue operation entry
    × AllZip IsOf (intents_of place entry operation) accesses

-- an entry that the request opens and the first access installs is this one
abbrev pub IsOwnEntry : List FileEntry → Operation → List Access → ℕ → Type 0
IsOwnEntry catalogue operation accesses entry =
    (other : ℕ) → entry_installed accesses ≡ Some other → IsOpened catalogue operation other
    → other ≡ entry

-- a request that isn't refused: it makes the accesses that it intends, and its completion is the
-- answer by what the last of them found; or it lacks memory
abbrev pub IsDoneAtTable : List FileEntry → Place → Operation → List Access → Completed → Type 0
IsDoneAtTable catalogue place operation accesses c =
    LacksMemory place operation accesses c
    ⊎ (AreIntended catalogue place operation accesses
    × (c ≡ answer_at_table catalogue place operation (last_finding accesses)))

-- the request may have this completion, having made these accesses
abbrev pub IsRequestDone : List FileEntry → ℕ → Place → Operation → List Access → Completed → Type 0
IsRequestDone catalogue size place operation accesses c =
    MatchOption (refusal_of catalogue size operation)
    (IsDoneAtTable catalogue place operation accesses c)
    (λ errno. IsRefused place errno accesses c)

-- the members of a chain from this place on make these accesses, one after another, and have these
-- completions, up to and including the first one that severs the chain; the later ones are canceled
abbrev pub IsChainDone :
    List FileEntry → ℕ → Place → List Asked → List Access → List Completed → Type 0
IsChainDone catalogue size place [] accesses completions = (accesses ≡ []) × (completions ≡ [])
IsChainDone catalogue size place (request ∷ requests) accesses completions =
    (own : List Access) × (others : List Access) × (c : Completed) × (cs : List Completed)
    × (accesses ≡ own ++ others) × (completions ≡ c ∷ cs)
    × IsRequestDone catalogue size place request.operation own c
    × MatchBool (severs request c)
    ((others ≡ []) × (cs ≡ canceled (next_member place) requests))
    (IsChainDone catalogue size (next_member place) requests others cs)

-- the completions are those of the chains from this one on, in order of place; each chain makes its
-- own accesses of the order
abbrev pub AreChainsDone :
    List FileEntry → ℕ → ℕ → ℕ → List (List Asked) → List ChainAccess → List Completed → Type 0
AreChainsDone catalogue size submission chain [] order completions = completions ≡ []
AreChainsDone catalogue size submission chain (run ∷ runs) order completions =
    (own : List Completed) × (others : List Completed) × (completions ≡ own ++ others)
    × IsChainDone catalogue size (first_member submission chain) run
    (accesses_of_chain chain order) own
    × AreChainsDone catalogue size submission (chain + 1) runs order others
