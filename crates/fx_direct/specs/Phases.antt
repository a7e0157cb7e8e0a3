-- The slots of the machine, and their phases.
use Rattle.std.specs.Prelude.{◌≡◌, ◌+◌, ◌==◌, if◌then◌else◌}
use Rattle.fx_direct.specs.Words.{ℕ, Bool, true, false, List, slice_index_or, sum_by, LifeChain}
use Rattle.fx_direct.specs.Words.{ChainEnd, ChainOpen, Phase, Slot}
pub use Rattle.fx_direct.specs.declared.chain.ChainEnd.TheVariants.{Later, Due, Awaited, Took, Left}
pub use Rattle.fx_direct.specs.declared.chain.ChainOpen.TheVariants.{Unseen, Installed, Failed}
pub use Rattle.fx_direct.specs.declared.phase.Phase.TheVariants.{Free, Opening, Live, Ending}
pub use Rattle.fx_direct.specs.declared.phase.Phase.TheVariants.{Closing, Chained}

abbrev pub bit : Bool → ℕ
bit true = 1
bit false = 0

-- a slot before its first life, or past the last slot
abbrev pub unused : Slot
unused = record { number = 0; phase = Free }

abbrev pub slot_numbered : List Slot → ℕ → Slot
slot_numbered slots slot = slice_index_or slots slot unused

abbrev pub phase_at : List Slot → ℕ → Phase
phase_at slots slot = (slot_numbered slots slot).phase

abbrev pub chain : ℕ → ChainOpen → ChainEnd → LifeChain
chain requests opened end = record { requests = requests; opened = opened; end = end }

-- a chain of which no completion was seen
abbrev pub chain_of : ℕ → Bool → LifeChain
chain_of requests true = chain requests Unseen Awaited
chain_of requests false = chain requests Unseen Later

-- the phase of a slot with a chain: it is chained until the last completion was seen, or, with no
-- close in the chain, until the open was seen to succeed
abbrev pub chain_phase : ℕ → ChainOpen → ChainEnd → Phase
chain_phase requests Unseen end = Chained (chain requests Unseen end)
chain_phase requests Installed Later = Live requests 0
chain_phase requests Installed Due = Ending requests 0
chain_phase requests opened Awaited = Chained (chain requests opened Awaited)
chain_phase requests Installed Left =
    if requests == 0 then Ending 0 0 else Chained (chain requests Installed Left)
chain_phase requests opened end =
    if requests == 0 then Free else Chained (chain requests opened end)

abbrev pub phase_of_chain : LifeChain → Phase
phase_of_chain c = chain_phase c.requests c.opened c.end

-- the completion of a chain's open wasn't seen
abbrev pub is_unseen : ChainOpen → Bool
is_unseen Unseen = true
is_unseen opened = false

-- the completion of a chain's close wasn't seen
abbrev pub is_awaited : ChainEnd → Bool
is_awaited Awaited = true
is_awaited end = false

-- the requests in flight
abbrev pub requests_in : Phase → ℕ
requests_in (Live requests users) = requests
requests_in (Ending requests users) = requests
requests_in (Chained c) = c.requests
requests_in phase = 0

-- the users that are not requests
abbrev pub users_in : Phase → ℕ
users_in (Live requests users) = users
users_in (Ending requests users) = users
users_in phase = 0

abbrev pub is_free : Phase → Bool
is_free Free = true
is_free phase = false

-- the kernel may have put a file at the slot in this phase
abbrev pub is_adoptable : Phase → Bool
is_adoptable Free = true
is_adoptable Closing = true
is_adoptable phase = false

-- an open is in flight
abbrev pub is_opening : Phase → Bool
is_opening Opening = true
is_opening (Chained c) = is_unseen c.opened
is_opening phase = false

abbrev pub is_live : Phase → Bool
is_live (Live requests users) = true
is_live phase = false

abbrev pub is_chained : Phase → Bool
is_chained (Chained c) = true
is_chained phase = false

abbrev pub is_left : ChainEnd → Bool
is_left Left = true
is_left end = false

-- the slot has its file, if its open succeeded, and its close isn't asked for
abbrev pub is_installed : Phase → Bool
is_installed (Live requests users) = true
is_installed (Ending requests users) = true
is_installed (Chained c) = is_left c.end
is_installed phase = false

-- a close is in flight
abbrev pub is_closing : Phase → Bool
is_closing Closing = true
is_closing (Chained c) = is_awaited c.end
is_closing phase = false

-- the life ends where its chain ends
abbrev pub ends_chain : ChainEnd → Bool
ends_chain Later = false
ends_chain end = true

abbrev pub ends_anyway : Phase → Bool
ends_anyway (Chained c) = ends_chain c.end
ends_anyway phase = false

abbrev pub calls_of_chain : LifeChain → ℕ
calls_of_chain c = c.requests + bit (is_unseen c.opened) + bit (is_awaited c.end)

-- the calls in flight at a slot: its open, its requests or its close
abbrev pub calls_in : Phase → ℕ
calls_in Free = 0
calls_in Opening = 1
calls_in (Live requests users) = requests
calls_in (Ending requests users) = requests
calls_in Closing = 1
calls_in (Chained c) = calls_of_chain c

-- the lives under way at a slot
abbrev pub lives_in : Phase → ℕ
lives_in Free = 0
lives_in phase = 1

-- the calls in flight at all slots
abbrev pub calls_in_flight : List Slot → ℕ
calls_in_flight slots = sum_by (λ s. calls_in s.phase) slots

-- the lives under way at all slots
abbrev pub lives_of : List Slot → ℕ
lives_of slots = sum_by (λ s. lives_in s.phase) slots

-- no slot has had a life
abbrev pub AllUnused : List Slot → Type 0
AllUnused slots = (slot : ℕ) → slot_numbered slots slot ≡ unused

-- each slot is free
abbrev pub AllFree : List Slot → Type 0
AllFree slots = (slot : ℕ) → phase_at slots slot ≡ Free
