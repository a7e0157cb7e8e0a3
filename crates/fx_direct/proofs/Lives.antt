-- Laws of a whole life.
use Rattle.fx_direct.proofs.Words.{arith, ◌≡◌, ◌≢◌, ℕ, ◌+◌, ◌<◌, ◌≤◌, ◌&&◌, ◌⊎◌, inl, Bool, List, [], ◌∷◌, refl, ap, ◌∙◌, get_or-set_other}
use Rattle.fx_direct.proofs.Words.{key_concerned, IsEnabled, AreEnabled, slots_left_by, AdvancesAndAsks, with_phase, Option, Some, None, ◌▷▷◌}
use Rattle.fx_direct.proofs.Words.{Transition, LifeKey, Phase, Slot, Free, Ending, Closing, slot_numbered, phase_at, is_chained, bit, DirectMachine}
use Rattle.fx_direct.proofs.Words.{becomes_live, and_ends, get_or_past, set-set}
use Rattle.fx_direct.specs.Counts.{times, chains, opens, starts, finishes, holds, releases, ends, asks, closes, fails, IsBalanced}
use Rattle.fx_direct.specs.Lives.{NoCloseIsDue, IsMachineCall, NoCloseIsLate, EachCloseIsAskedForOnce, StaleKeysStayStale}
use Rattle.fx_direct.proofs.Counting.{Kept, kept_always}
use Rattle.fx_direct.proofs.Asking.{phase_left, at_key, ends_leaves}
use Rattle.fx_direct.proofs.Calls.{not_true}
use Rattle.fx_direct.proofs.Moves.{by_slot, after-here, after-else}
use Rattle.fx_direct.proofs.Turns.{within}

-- Each close is asked for once.

module _ (h : List Transition) (k : LifeKey) (number : ℕ) (p : Phase) (kept : Kept h k number p) where
  abbrev b : IsBalanced h k p
  b = kept.balance

  few : (times (opens k) h ≤ 1) × (times (asks k) h ≤ 1 + times (fails k) h)
      × (times (asks k) h ≤ times (opens k) h + times (chains k) h + times (fails k) h)
      × (times (closes k) h ≤ 1) × (times (closes k) h ≤ times (opens k) h + bit (is_chained p))
  few = grind arith

  asked : (p ≡ Ending 0 0 → ⊥) → 0 < times (opens k) h → 0 < times (ends k) h → times (starts k) h ≡ times (finishes k) h
      → times (holds k) h ≡ times (releases k) h → times (asks k) h ≡ 1 + times (fails k) h
  asked due some_open ended requests users = grind (arith, not_true)

pub each_close_is_asked_for_once : EachCloseIsAskedForOnce
each_close_is_asked_for_once start h k free can = grind (arith, few, asked, kept_always start h k free can)

-- No close is late.

first_may : (old : List Slot) (t : Transition) (b : Bool) → AreEnabled old (and_ends b t) → IsEnabled old t
first_may old t b may = grind arith

-- the slot of a call, and its phase then: its close is asked for, or isn't due
pub record Leaves (old : DirectMachine) (t : Transition) (new : DirectMachine) : Type 0 where
  pub can : IsEnabled old.list t
  pub phase : Phase
  pub list : new.list ≡ with_phase old.list (key_concerned t) phase
  pub left : (phase ≡ Closing) ⊎ ((phase ≡ phase_left old.stopped t (phase_at old.list (key_concerned t).slot)) × (phase ≡ Ending 0 0 → ⊥))
  pub same : new.stopped ≡ old.stopped

by_asking : (old new : DirectMachine) (t : Transition) (ask : Option ℕ) → AdvancesAndAsks old t ask new → Leaves old t new
by_asking old new t None turns = grind (arith, first_may, ends_leaves, at_key, within)
by_asking old new t (Some slot) turns =
    let k = key_concerned t in let b = becomes_live t (phase_at old.list k.slot) && old.stopped in let can = first_may old.list t b turns.1.0.0 in record {
      can = can;
      phase = Closing;
      list = ap (λ (m : DirectMachine). m.list) turns.1.1 ∙ ap (λ (xs : List Slot). with_phase xs k Closing) (ends_leaves old.range old.list t can b) ∙ set-set old.list k.slot _ _;
      left = inl refl;
      same = ap (λ (m : DirectMachine). m.stopped) turns.1.1;
    }

pub call_leaves : (old new : DirectMachine) (t : Transition) → IsMachineCall old t new → Leaves old t new
call_leaves old new t h4 = grind (arith, by_asking)

at_other : (old : List Slot) (k : LifeKey) (p : Phase) (s : ℕ) → s ≢ k.slot → phase_at (with_phase old k p) s ≡ phase_at old s
at_other old k p s ne = grind (arith, get_or-set_other)

pub not_due : (old new : DirectMachine) (t : Transition) → NoCloseIsDue old.list → Leaves old t new → NoCloseIsDue new.list
not_due old new t due leaves = grind (arith, by_slot, at_key, within, at_other)

pub no_close_is_late : NoCloseIsLate
no_close_is_late = (λ slots free slot e. let f = free slot in cc, λ old new t due call. not_due old new t due (call_leaves old new t call))

-- Stale keys stay stale.

-- the life of the key is over
abbrev IsOver : List Slot → LifeKey → Type 0
IsOver slots k = (k.number ≤ (slot_numbered slots k.slot).number) × ((slot_numbered slots k.slot).number ≡ k.number → phase_at slots k.slot ≡ Free)

-- a transition but a reservation is of a slot that isn't free
-- the number of the transition's slot, which is its key's, and whose life isn't over; or a new one
told : (slots : List Slot) (t : Transition) → IsEnabled slots t
    → (((slot_numbered slots (key_concerned t).slot).number ≡ (key_concerned t).number) × (phase_at slots (key_concerned t).slot ≡ Free → ⊥))
    ⊎ ((key_concerned t).number ≡ (slot_numbered slots (key_concerned t).slot).number + 1)
told slots t can = grind arith

over_always : (start : List Slot) (earlier later : List Transition) (k : LifeKey) → AreEnabled start (earlier ▷▷ later)
    → IsOver (slots_left_by start earlier) k → IsOver (slots_left_by start (earlier ▷▷ later)) k
over_always start earlier [] k can over = over
over_always start earlier (t ∷ later) k can over = grind (arith, over_always start earlier later k can.0 over, after-here, within, told, after-else, can)

earlier_part : (start : List Slot) (earlier later : List Transition) → AreEnabled start (earlier ▷▷ later) → AreEnabled start earlier
earlier_part start earlier [] can = can
earlier_part start earlier (t ∷ later) can = earlier_part start earlier later can.0

pub stale_keys_stay_stale : StaleKeysStayStale
stale_keys_stay_stale start earlier later t free can given gone =
    let k = key_concerned t in
    let kept = kept_always start earlier k free (earlier_part start earlier later can) in grind (arith, told, over_always, get_or_past)
