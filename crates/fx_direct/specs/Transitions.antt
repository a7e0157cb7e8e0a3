-- The transitions of the machine: when each one is possible, and the slots after it.
use Rattle.std.specs.Prelude.{◌≡◌, ◌≢◌, ◌+◌, ◌-◌, ◌<◌, ◌≤◌, ◌∷◌, ◌⊎◌, ◌&&◌}
use Rattle.fx_direct.specs.Words.{ℕ, Bool, true, false, List, [], length, slice_set, Option, Some}
use Rattle.fx_direct.specs.Words.{None, not, ChainEnd, ChainOpen, LifeChain, LifeKey, MOST_LIVES}
use Rattle.fx_direct.specs.Words.{Phase, Slot, SlotRange, Transition}
use Rattle.fx_direct.specs.Phases.{Free, Opening, Live, Ending, Closing, Chained, Installed, Failed}
use Rattle.fx_direct.specs.Phases.{Unseen, Later, Due, Awaited, Took, Left, chain, chain_of}
use Rattle.fx_direct.specs.Phases.{chain_phase, slot_numbered, phase_at, requests_in, users_in}
use Rattle.fx_direct.specs.Phases.{calls_of_chain, is_live, is_closing, ends_anyway}
use Rattle.fx_direct.specs.declared.chain.Member.{Member}
use Rattle.fx_direct.specs.declared.chain.Member.TheVariants.{Open, Request, Close}
pub use Rattle.fx_direct.specs.declared.transition.Transition.TheVariants.{Reserves, Chains, Opens}
pub use Rattle.fx_direct.specs.declared.transition.Transition.TheVariants.{Starts, Adopts}
pub use Rattle.fx_direct.specs.declared.transition.Transition.TheVariants.{Finishes, Holds}
pub use Rattle.fx_direct.specs.declared.transition.Transition.TheVariants.{Releases, Ends, Asks}
pub use Rattle.fx_direct.specs.declared.transition.Transition.TheVariants.{Closes, FailsToClose}

-- the key that the transition is about
abbrev pub key_concerned : Transition → LifeKey
key_concerned (Reserves k) = k
key_concerned (Adopts k) = k
key_concerned (Chains k requests closes) = k
key_concerned (Opens k installed) = k
key_concerned (Starts k) = k
key_concerned (Finishes k) = k
key_concerned (Holds k) = k
key_concerned (Releases k) = k
key_concerned (Ends k) = k
key_concerned (Asks k) = k
key_concerned (Closes k) = k
key_concerned (FailsToClose k) = k

-- the key is that of the slot's last life
abbrev pub NamesLastLife : List Slot → LifeKey → Type 0
NamesLastLife slots k = (k.slot < length slots) × ((slot_numbered slots k.slot).number ≡ k.number)

-- the key of the slot's last life
abbrev pub life_at : List Slot → ℕ → LifeKey
life_at slots slot = record { slot = slot; number = (slot_numbered slots slot).number }

-- the life of the key is under way
abbrev pub HasLife : List Slot → LifeKey → Type 0
HasLife slots k = NamesLastLife slots k × (phase_at slots k.slot ≢ Free)

-- the completion of a chain's open may be seen. A close takes no file of an open that failed
abbrev pub can_open : Bool → ChainOpen → ChainEnd → Bool
can_open false Unseen Took = false
can_open installed Unseen end = true
can_open installed opened end = false

-- the completion of a chain's close that took the file may be seen
abbrev pub can_close : ChainOpen → ChainEnd → Bool
can_close Failed Awaited = false
can_close opened Awaited = true
can_close opened end = false

abbrev pub may_open : Bool → Phase → Bool
may_open installed Opening = true
may_open installed (Chained c) = can_open installed c.opened c.end
may_open installed p = false

abbrev pub goes_on : ChainEnd → Bool
goes_on Later = true
goes_on end = false

abbrev pub may_end : Phase → Bool
may_end (Live requests users) = true
may_end (Chained c) = goes_on c.end
may_end p = false

abbrev pub may_close : Phase → Bool
may_close Closing = true
may_close (Chained c) = can_close c.opened c.end
may_close p = false

-- the condition of a transition on its slot's phase
abbrev pub FitsPhase : Transition → Phase → Type 0
FitsPhase (Reserves k) p = p ≡ Free
FitsPhase (Adopts k) p = p ≡ Free
FitsPhase (Chains k requests closes) p = p ≡ Opening
FitsPhase (Opens k installed) p = may_open installed p ≡ true
FitsPhase (Starts k) p = is_live p ≡ true
FitsPhase (Finishes k) p = 0 < requests_in p
FitsPhase (Holds k) p = is_live p ≡ true
FitsPhase (Releases k) p = 0 < users_in p
FitsPhase (Ends k) p = may_end p ≡ true
FitsPhase (Asks k) p = p ≡ Ending 0 0
FitsPhase (Closes k) p = may_close p ≡ true
FitsPhase (FailsToClose k) p = is_closing p ≡ true

-- the slot is free, and may begin one more life, of this key
abbrev pub MayBegin : List Slot → LifeKey → Type 0
MayBegin slots k =
    (k.slot < length slots) × (k.number ≡ (slot_numbered slots k.slot).number + 1)
    × (phase_at slots k.slot ≡ Free) × (k.number ≤ MOST_LIVES)

-- the condition of a transition, in the slots before it
abbrev pub IsEnabled : List Slot → Transition → Type 0
IsEnabled slots (Reserves k) = MayBegin slots k
IsEnabled slots (Adopts k) = MayBegin slots k
IsEnabled slots t =
    NamesLastLife slots (key_concerned t) × FitsPhase t (phase_at slots (key_concerned t).slot)

-- the completion of a member of a chain
abbrev pub completion : LifeKey → Member → Bool → Transition
completion k Open succeeded = Opens k succeeded
completion k Request succeeded = Finishes k
completion k Close true = Closes k
completion k Close false = FailsToClose k

abbrev pub with_counts : Phase → ℕ → ℕ → Phase
with_counts (Live a b) requests users = Live requests users
with_counts (Ending a b) requests users = Ending requests users
with_counts (Chained c) requests users = chain_phase requests c.opened c.end
with_counts phase requests users = phase

-- a chain's open, by whether it installed a file
abbrev pub open_seen : Bool → ChainOpen
open_seen true = Installed
open_seen false = Failed

-- the phase after an open, by whether it installed a file
abbrev pub when_opened : Bool → Phase → Phase
when_opened installed (Chained c) = chain_phase c.requests (open_seen installed) c.end
when_opened true p = Live 0 0
when_opened false p = Free

abbrev pub when_ended : Phase → Phase
when_ended (Chained c) = Chained (chain c.requests c.opened Due)
when_ended p = Ending (requests_in p) (users_in p)

abbrev pub when_closed : Phase → Phase
when_closed (Chained c) = chain_phase c.requests c.opened Took
when_closed p = Free

-- the phase after a close that left the file
abbrev pub when_left : Phase → Phase
when_left (Chained c) = chain_phase c.requests c.opened Left
when_left p = Ending 0 0

-- the phase of the transition's slot after it
abbrev pub phase_after : Transition → Phase → Phase
phase_after (Reserves k) p = Opening
phase_after (Adopts k) p = Live 0 0
phase_after (Chains k requests closes) p = Chained (chain_of requests closes)
phase_after (Opens k installed) p = when_opened installed p
phase_after (Starts k) p = with_counts p (requests_in p + 1) (users_in p)
phase_after (Finishes k) p = with_counts p (requests_in p - 1) (users_in p)
phase_after (Holds k) p = with_counts p (requests_in p) (users_in p + 1)
phase_after (Releases k) p = with_counts p (requests_in p) (users_in p - 1)
phase_after (Ends k) p = when_ended p
phase_after (Asks k) p = Closing
phase_after (Closes k) p = when_closed p
phase_after (FailsToClose k) p = when_left p

-- the chain goes on after the success of this member, as another chain
abbrev pub KeepsChain : LifeKey → Member → LifeChain → LifeChain → Type 0
KeepsChain k member old new =
    FitsPhase (completion k member true) (Chained old)
    × (phase_after (completion k member true) (Chained old) ≡ Chained new)
    × (calls_of_chain old ≡ calls_of_chain new + 1)

-- the slots, with this life and phase at the slot of a key
abbrev pub with_phase : List Slot → LifeKey → Phase → List Slot
with_phase slots k phase = slice_set slots k.slot (record { number = k.number; phase = phase })

-- the same of the chain under a key
abbrev pub GoesOn : List Slot → LifeKey → Member → List Slot → Type 0
GoesOn old k member new =
    HasLife old k × (c : LifeChain) × (d : LifeChain) × (phase_at old k.slot ≡ Chained c)
    × KeepsChain k member c d × (new ≡ with_phase old k (Chained d))

-- the success of this member is usual in this phase: the close of its chain is to come after it, or
-- it is that close and comes last
abbrev pub IsUsual : Member → Phase → Type 0
IsUsual Close p = p ≡ Chained (chain 0 Installed Awaited)
IsUsual Open (Chained c) = (c.opened ≡ Unseen) × (c.end ≡ Awaited)
IsUsual Request (Chained c) = (0 < c.requests) × (c.end ≡ Awaited)
IsUsual member p = ⊥

-- the same of the life under a key
abbrev pub IsUsualAt : List Slot → LifeKey → Member → Type 0
IsUsualAt slots k member = NamesLastLife slots k × IsUsual member (phase_at slots k.slot)

-- the slots after a transition
abbrev pub slots_with : List Slot → Transition → List Slot
slots_with slots t =
    with_phase slots (key_concerned t) (phase_after t (phase_at slots (key_concerned t).slot))

-- the slots after these transitions, of which the newest is the first
abbrev pub slots_left_by : List Slot → List Transition → List Slot
slots_left_by slots [] = slots
slots_left_by slots (t ∷ h) = slots_with (slots_left_by slots h) t

-- each transition is possible in the slots that the earlier ones leave
abbrev pub AreEnabled : List Slot → List Transition → Type 0
AreEnabled slots [] = Unit {0}
AreEnabled slots (t ∷ h) = AreEnabled slots h × IsEnabled (slots_left_by slots h) t

-- a machine: its slots, the ring's allocation range, and whether the machine was stopped
pub record DirectMachine : Type 0 where
  pub list : List Slot
  pub range : SlotRange
  pub stopped : Bool

abbrev pub machine_with : List Slot → SlotRange → Bool → DirectMachine
machine_with list range stopped = record { list = list; range = range; stopped = stopped }

-- a life in this phase becomes live by the transition
abbrev pub becomes_live : Transition → Phase → Bool
becomes_live t p = not (is_live p) && is_live (phase_after t p)

-- the phase, or in place of a live one that of its life's end
abbrev pub unless_live : Bool → Phase → Phase
unless_live true p = when_ended p
unless_live false p = p

-- the transition, and perhaps the end of its life after it
abbrev pub and_ends : Bool → Transition → List Transition
and_ends true t = Ends (key_concerned t) ∷ t ∷ []
and_ends false t = t ∷ []

-- the transitions of a call: after a stop a life that becomes live is ended at once
abbrev pub call_makes : DirectMachine → Transition → List Transition
call_makes m t =
    and_ends (becomes_live t (phase_at m.list (key_concerned t).slot) && m.stopped) t

-- these transitions are made, and nothing else
abbrev pub AdvancesBy : DirectMachine → List Transition → DirectMachine → Type 0
AdvancesBy old h new =
    AreEnabled old.list h × (new ≡ machine_with (slots_left_by old.list h) old.range old.stopped)

-- the transition is made, and nothing else
abbrev pub Advances : DirectMachine → Transition → DirectMachine → Type 0
Advances old t new =
    IsEnabled old.list t × (new ≡ machine_with (slots_with old.list t) old.range old.stopped)

-- a call makes the transition. If this leaves an ending slot with no request and no user, the close
-- of that slot is asked for, else no close is
abbrev pub AdvancesAndAsks : DirectMachine → Transition → Option ℕ → DirectMachine → Type 0
AdvancesAndAsks old t None new =
    AdvancesBy old (call_makes old t) new
    × (phase_at new.list (key_concerned t).slot ≡ Ending 0 0 → ⊥)
AdvancesAndAsks old t (Some slot) new =
    (slot ≡ (key_concerned t).slot) × AdvancesBy old (Asks (key_concerned t) ∷ call_makes old t) new

-- the life of a key is ended. Where its chain ends it anyway, nothing changes
abbrev pub EndsLife : DirectMachine → LifeKey → Option ℕ → DirectMachine → Type 0
EndsLife old k ask new =
    AdvancesAndAsks old (Ends k) ask new
    ⊎ (HasLife old.list k × (ends_anyway (phase_at old.list k.slot) ≡ true) × (ask ≡ None)
    × (new ≡ old))

-- the file that the kernel put at the key's slot is adopted. If the slot's earlier life was
-- closing, its close succeeded
abbrev pub AdoptsFile : DirectMachine → LifeKey → Option ℕ → DirectMachine → Type 0
AdoptsFile old k ask new =
    (m : DirectMachine) × ((m ≡ old) ⊎ Advances old (Closes (life_at old.list k.slot)) m)
    × AdvancesAndAsks m (Adopts k) ask new
