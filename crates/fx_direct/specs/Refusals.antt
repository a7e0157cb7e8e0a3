-- Why the machine refuses a transition.
use Rattle.std.specs.Prelude.{◌≡◌, ◌-◌, ◌^◌, ◌<◌, ◌≤◌}
use Rattle.fx_direct.specs.Words.{ℕ, true, false, List, length, LifeKey, MOST_LIVES, Slot, Stale}
use Rattle.fx_direct.specs.Words.{Is, TooManyRequests, TooManyUsers, Transition}
use Rattle.fx_direct.specs.Order.{is_ranged}
use Rattle.fx_direct.specs.Phases.{slot_numbered, phase_at, requests_in, users_in, is_adoptable}
use Rattle.fx_direct.specs.Phases.{is_chained, ends_anyway}
use Rattle.fx_direct.specs.Transitions.{Reserves, Starts, Holds, Ends, HasLife, IsEnabled}
use Rattle.fx_direct.specs.Transitions.{DirectMachine, key_concerned}
use Rattle.fx_direct.specs.declared.refusal.AdoptRefusal.{AdoptRefusal}
use Rattle.fx_direct.specs.declared.refusal.AdoptRefusal.TheVariants.{OutOfRange, NotFree}
use Rattle.fx_direct.specs.declared.refusal.AdoptRefusal.TheVariants.{NoMoreLives}
use Rattle.fx_direct.specs.declared.refusal.LifeRefusal.{LifeRefusal}
use Rattle.fx_direct.specs.declared.refusal.ReserveRefusal.{ReserveRefusal}
use Rattle.fx_direct.specs.declared.refusal.ReserveRefusal.TheVariants.{Full, Stopped}

-- the life of the key isn't under way; or its slot is in this phase, in which the transition is
-- impossible; or it would raise a count that is at its limit
abbrev pub RefusesTransition : List Slot → Transition → LifeRefusal → Type 0
RefusesTransition slots t Stale = HasLife slots (key_concerned t) → ⊥
RefusesTransition slots t (Is phase) =
    HasLife slots (key_concerned t) × (phase ≡ phase_at slots (key_concerned t).slot)
    × (IsEnabled slots t → ⊥)
RefusesTransition slots t TooManyRequests =
    IsEnabled slots t × (t ≡ Starts (key_concerned t))
    × (requests_in (phase_at slots (key_concerned t).slot) ≡ 2 ^ 32 - 1)
RefusesTransition slots t TooManyUsers =
    IsEnabled slots t × (t ≡ Holds (key_concerned t))
    × (users_in (phase_at slots (key_concerned t).slot) ≡ 2 ^ 32 - 1)

-- the same of a call that isn't for chains: a life that is chained refuses it
abbrev pub RefusesUnchained : List Slot → Transition → LifeRefusal → Type 0
RefusesUnchained slots t (Is phase) =
    HasLife slots (key_concerned t) × (phase ≡ phase_at slots (key_concerned t).slot)
    × (IsEnabled slots t → is_chained phase ≡ true)
RefusesUnchained slots t why = RefusesTransition slots t why

-- no slot begins a life: the machine was stopped, or no slot outside the range may
abbrev pub RefusesReserve : DirectMachine → ReserveRefusal → Type 0
RefusesReserve m Stopped = m.stopped ≡ true
RefusesReserve m Full =
    (m.stopped ≡ false)
    × ((k : LifeKey) → is_ranged m.range k.slot ≡ false → IsEnabled m.list (Reserves k) → ⊥)

-- the file isn't adopted: no slot of the range has this number; or its life needs the slot, which
-- has a file of it; or the slot has had its last life
abbrev pub RefusesAdopt : DirectMachine → ℕ → AdoptRefusal → Type 0
RefusesAdopt m slot OutOfRange = slot < length m.list → is_ranged m.range slot ≡ true → ⊥
RefusesAdopt m slot NotFree = is_adoptable (phase_at m.list slot) ≡ false
RefusesAdopt m slot NoMoreLives = MOST_LIVES ≤ (slot_numbered m.list slot).number

-- the life of the key isn't under way, or it can't be ended and no chain ends it
abbrev pub RefusesEnd : List Slot → LifeKey → LifeRefusal → Type 0
RefusesEnd slots k (Is phase) =
    RefusesTransition slots (Ends k) (Is phase) × (ends_anyway phase ≡ false)
RefusesEnd slots k why = RefusesTransition slots (Ends k) why
