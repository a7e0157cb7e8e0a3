-- Three flights that go wrong: a close doesn't wait, a slot is free before its chain is over, and a
-- life is reserved where the kernel chooses slots.
use Rattle.std.specs.Prelude.{◌≡◌, ◌+◌, ◌<◌, ◌≤◌}
use Rattle.fx_direct.specs.Words.{ℕ, Bool, true, false, List, [], length, Some, None, ◌▷◌, Look}
use Rattle.fx_direct.specs.Words.{Put, Take, ChainOpen, MOST_LIVES, Phase, Transition}
use Rattle.fx_direct.specs.Phases.{Chained, Ending, Failed, Free, phase_at, slot_numbered}
use Rattle.fx_direct.specs.Transitions.{Reserves, Chains, Opens, Starts, Ends, Asks, Closes}
use Rattle.fx_direct.specs.Transitions.{IsEnabled, NamesLastLife}
use Rattle.fx_direct.specs.Flight.{World, OpenAt, UseOf, CloseOf, DirectMoment, Does, Accesses}
use Rattle.fx_direct.specs.Flight.{Quits, Chooses, CanDo, FitsRange, IsDirectFlightBy}
use Rattle.fx_direct.specs.Round.{two_slots, some_file, next_file, first_key, second_key}
use Rattle.fx_direct.specs.Round.{adopted_key, later_key}

-- the machine's condition, but a close may be asked for while requests and users are left
abbrev pub IsEnabledInHaste : World → Transition → Type 0
IsEnabledInHaste w (Asks k) =
    NamesLastLife w.slots k × (requests : ℕ) × (users : ℕ)
    × (phase_at w.slots k.slot ≡ Ending requests users)
IsEnabledInHaste w t = CanDo w t

-- a request of the first key finds the file of the second one
abbrev pub mistake : List DirectMoment
mistake =
    [] ▷ Does (Reserves first_key) ▷ Accesses (OpenAt first_key) (Put 0 some_file None)
    ▷ Does (Opens first_key true) ▷ Does (Starts first_key) ▷ Does (Ends first_key)
    ▷ Does (Asks first_key) ▷ Accesses (CloseOf first_key) (Take 0 (Some some_file))
    ▷ Does (Closes first_key) ▷ Does (Reserves second_key)
    ▷ Accesses (OpenAt second_key) (Put 0 next_file None)
    ▷ Accesses (UseOf first_key) (Look 0 (Some next_file))

-- under that condition it happens
abbrev pub HasteIsWrong : Type 0
HasteIsWrong = (end : World) × IsDirectFlightBy IsEnabledInHaste two_slots mistake end

abbrev pub is_failed : ChainOpen → Bool
is_failed Failed = true
is_failed opened = false

-- the machine's condition, but a slot is free once the open of its chain was seen to fail
abbrev pub is_free_early : Phase → Bool
is_free_early Free = true
is_free_early (Chained c) = is_failed c.opened
is_free_early p = false

abbrev pub IsEnabledEarly : World → Transition → Type 0
IsEnabledEarly w (Reserves k) =
    (k.slot < length w.slots) × (k.number ≡ (slot_numbered w.slots k.slot).number + 1)
    × (is_free_early (phase_at w.slots k.slot) ≡ true) × (k.number ≤ MOST_LIVES)
    × FitsRange w.table (Reserves k)
IsEnabledEarly w t = CanDo w t

-- the close of a chain whose open failed takes the file of another key
abbrev pub chain_mistake : List DirectMoment
chain_mistake =
    [] ▷ Does (Reserves first_key) ▷ Does (Chains first_key 0 true) ▷ Quits (OpenAt first_key)
    ▷ Does (Opens first_key false) ▷ Does (Reserves second_key)
    ▷ Accesses (OpenAt second_key) (Put 0 some_file None)
    ▷ Accesses (CloseOf first_key) (Take 0 (Some some_file))

-- under that condition it happens
abbrev pub ChainIsNotAnOpen : Type 0
ChainIsNotAnOpen = (end : World) × IsDirectFlightBy IsEnabledEarly two_slots chain_mistake end

-- the machine's condition, but a life may be reserved in the ring's allocation range
abbrev pub IsEnabledInRange : World → Transition → Type 0
IsEnabledInRange w (Reserves k) = IsEnabled w.slots (Reserves k)
IsEnabledInRange w t = CanDo w t

-- the open of a reserved life finds the file of an open without a key
abbrev pub choice_mistake : List DirectMoment
choice_mistake =
    [] ▷ Does (Reserves adopted_key) ▷ Chooses later_key some_file
    ▷ Accesses (OpenAt adopted_key) (Put 1 next_file (Some some_file))

-- under that condition it happens
abbrev pub RangeIsTheKernels : Type 0
RangeIsTheKernels = (end : World) × IsDirectFlightBy IsEnabledInRange two_slots choice_mistake end
