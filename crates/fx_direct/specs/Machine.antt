-- The invariants of the machine's fields.
use Rattle.std.specs.Prelude.{◌≡◌, ◌+◌, ◌<◌, ◌≤◌, ◌&&◌, ◌^◌}
use Rattle.fx_direct.specs.Words.{ℕ, Bool, nat_lt, List, length, Option, Some, None, not, LifeKey}
use Rattle.fx_direct.specs.Words.{MOST_LIVES, MOST_SLOTS, Phase, Slot}
use Rattle.fx_direct.specs.Order.{Order, is_among_vacant, is_ranged}
use Rattle.fx_direct.specs.Phases.{Ending, Closing, slot_numbered, phase_at, is_free, calls_in}
use Rattle.fx_direct.specs.Phases.{calls_in_flight, lives_of}
use Rattle.fx_direct.specs.Transitions.{with_phase}

-- these are the lives under way and the calls in flight
pub record AreCounted (slots : List Slot) (lives calls : ℕ) : Type 0 where
  pub few : length slots ≤ MOST_SLOTS
  pub lives_are : lives ≡ lives_of slots
  pub calls_are : calls ≡ calls_in_flight slots
  -- an open, 2^32 - 1 requests and a close at most
  pub each : (slot : ℕ) → calls_in (phase_at slots slot) ≤ 2 ^ 32 + 1

-- the slot may begin one more life
abbrev pub is_vacant : Slot → Bool
is_vacant slot = is_free slot.phase && nat_lt slot.number MOST_LIVES

-- the order has exactly the vacant slots outside the range as its first ones, and each number fits
-- a key's bits
pub record IsMachine (slots : List Slot) (order : Order) : Type 0 where
  pub few : length slots ≤ MOST_SLOTS
  pub same : order.size ≡ length slots
  pub ordered : (slot : ℕ) → slot < length slots
      → is_among_vacant order slot
      ≡ is_vacant (slot_numbered slots slot) && not (is_ranged order.range slot)
  pub numbers : (slot : ℕ) → (slot_numbered slots slot).number ≤ MOST_LIVES

-- the phase is written. If it leaves no request and no user of an ending slot, its close is asked
-- for
abbrev pub WritesPhase : List Slot → LifeKey → Phase → Option ℕ → List Slot → Type 0
WritesPhase old k phase None new =
    (new ≡ with_phase old k phase) × (phase ≡ Ending 0 0 → ⊥)
WritesPhase old k phase (Some slot) new =
    (slot ≡ k.slot) × (phase ≡ Ending 0 0) × (new ≡ with_phase old k Closing)
