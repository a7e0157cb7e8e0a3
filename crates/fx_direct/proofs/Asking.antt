-- A call's transitions, and the close that is asked for then.
use Rattle.fx_direct.proofs.Words.{arith, ◌≡◌, ◌<◌, ◌&&◌, List, ◌∷◌, length, subst, get_or-set_same, length-set, refl, sym, ap, ◌∙◌, Option, Some, None, Slot, Transition, Phase, Ending, Closing, ℕ}
use Rattle.fx_direct.proofs.Words.{AdvancesAndAsks, with_phase, Asks, key_concerned, IsEnabled, AreEnabled, phase_at, phase_after, slots_with, slots_left_by, is_live}
use Rattle.fx_direct.proofs.Words.{Bool, true, false, LifeKey, Member, NamesLastLife, FitsPhase, Closes, ◌≤◌, ◌+◌, ◌⊎◌, inl, inr, Free, Live, Adopts}
use Rattle.fx_direct.proofs.Words.{life_at, slot_numbered, set-set, completion, when_ended, machine_with, AdvancesBy, becomes_live}
use Rattle.fx_direct.proofs.Words.{unless_live, and_ends, AdoptsFile, may_close, when_closed, is_adoptable, MOST_LIVES, WritesPhase, SlotRange}
use Rattle.fx_direct.proofs.Moves.{after-here, after-length}
use Rattle.fx_direct.proofs.Turns.{within}

-- the phase that a call leaves, before the close that is due is asked for
abbrev pub phase_left : Bool → Transition → Phase → Phase
phase_left stopped t p = unless_live (becomes_live t p && stopped) (phase_after t p)

pub is_begun : (t : Transition) (p : Phase) (stopped : Bool) → (becomes_live t p && stopped) ≡ true → is_live (phase_after t p) ≡ true
is_begun t p stopped e = grind arith

-- the slot whose phase was written
pub at_key : (old : List Slot) (k : LifeKey) (p : Phase) → k.slot < length old → phase_at (with_phase old k p) k.slot ≡ p
at_key old k p inside = grind (arith, get_or-set_same)

names_key : (old : List Slot) (k : LifeKey) (p : Phase) → k.slot < length old → NamesLastLife (with_phase old k p) k
names_key old k p inside = grind (arith, get_or-set_same, length-set)

module _ (range : SlotRange) (old : List Slot) (d : Transition) (can : IsEnabled old d) where
  abbrev k : LifeKey
  k = key_concerned d

  here : phase_at (slots_with old d) k.slot ≡ phase_after d (phase_at old k.slot)
  here = ap (λ (s : Slot). s.phase) (after-here old d (within old d can))

  names : NamesLastLife (slots_with old d) k
  names = (rw (after-length old d) (within old d can), ap (λ (s : Slot). s.number) (after-here old d (within old d can)))

  -- the transition, and perhaps the end of its life after it
  ends_may : (b : Bool) → (b ≡ true → is_live (phase_after d (phase_at old k.slot)) ≡ true) → AreEnabled old (and_ends b d)
  ends_may b live = grind (arith, names, here)

  pub ends_leaves : (b : Bool) → slots_left_by old (and_ends b d) ≡ with_phase old k (unless_live b (phase_after d (phase_at old k.slot)))
  ends_leaves true = ap (λ (p : Phase). with_phase (slots_with old d) k (when_ended p)) here ∙ set-set old k.slot _ _
  ends_leaves false = refl

  -- what `AdvancesAndAsks` says of these transitions
  abbrev AsksBy : Bool → Bool → Option ℕ → List Slot → Type 0
  AsksBy b stopped None new = AdvancesBy (machine_with old range stopped) (and_ends b d) (machine_with new range stopped) × (phase_at new k.slot ≡ Ending 0 0 → ⊥)
  AsksBy b stopped (Some slot) new = (slot ≡ k.slot) × AdvancesBy (machine_with old range stopped) (Asks k ∷ and_ends b d) (machine_with new range stopped)

  asks_by : (b stopped : Bool) (phase : Phase) (ask : Option ℕ) (new : List Slot) → AreEnabled old (and_ends b d) → slots_left_by old (and_ends b d) ≡ with_phase old k phase
      → WritesPhase old k phase ask new → AsksBy b stopped ask new
  asks_by b stopped phase None new may is writes =
      ((may, ap (λ (xs : List Slot). machine_with xs range stopped) (writes.0 ∙ sym is)), λ none. writes.1 (sym (at_key old k phase (within old d can)) ∙ ap (λ (xs : List Slot). phase_at xs k.slot) (sym writes.0) ∙ none))
  asks_by b stopped phase (Some slot) new may is writes = (
    writes.0,
    (
      (may, subst (λ (xs : List Slot). IsEnabled xs (Asks k)) (sym is) (names_key old k phase (within old d can), at_key old k phase (within old d can) ∙ writes.1)),
      ap (λ (xs : List Slot). machine_with xs range stopped) (writes.2 ∙ sym (ap (λ (xs : List Slot). with_phase xs k Closing) is ∙ set-set old k.slot _ _)),
    ),
  )

  abbrev is_ended : Bool → Bool
  is_ended stopped = becomes_live d (phase_at old k.slot) && stopped

  may : (stopped : Bool) → AreEnabled old (and_ends (is_ended stopped) d)
  may stopped = ends_may (is_ended stopped) (is_begun d (phase_at old k.slot) stopped)

  leaves_phase : (stopped : Bool) (phase : Phase) → phase_left stopped d (phase_at old k.slot) ≡ phase → slots_left_by old (and_ends (is_ended stopped) d) ≡ with_phase old k phase
  leaves_phase stopped phase leaves = ends_leaves (is_ended stopped) ∙ ap (with_phase old k) leaves

  pub asks : (stopped : Bool) (phase : Phase) (ask : Option ℕ) (new : List Slot) → phase_left stopped d (phase_at old k.slot) ≡ phase → WritesPhase old k phase ask new
      → AdvancesAndAsks (machine_with old range stopped) d ask (machine_with new range stopped)
  asks stopped phase None new leaves writes = asks_by (is_ended stopped) stopped phase None new (may stopped) (leaves_phase stopped phase leaves) writes
  asks stopped phase (Some slot) new leaves writes = asks_by (is_ended stopped) stopped phase (Some slot) new (may stopped) (leaves_phase stopped phase leaves) writes

-- the same of the completion of a chain's member
pub completes : (range : SlotRange) (old : List Slot) (stopped : Bool) (k : LifeKey) (m : Member) (succeeded : Bool) (phase : Phase) (ask : Option ℕ) (new : List Slot) → NamesLastLife old k
    → FitsPhase (completion k m succeeded) (phase_at old k.slot) → phase_left stopped (completion k m succeeded) (phase_at old k.slot) ≡ phase
    → WritesPhase old k phase ask new → AdvancesAndAsks (machine_with old range stopped) (completion k m succeeded) ask (machine_with new range stopped)
completes range old stopped k m succeeded phase ask new names may leaves writes = grind (arith, asks)

-- an adoption, after the close of the slot's earlier life if that was closing
adoptable : (p : Phase) → is_adoptable p ≡ true → (p ≡ Free) ⊎ (p ≡ Closing)
adoptable p may = grind arith

write_over : (old : List Slot) (j k : LifeKey) (r p : Phase) (ask : Option ℕ) (new : List Slot) → j.slot ≡ k.slot → WritesPhase old k p ask new → WritesPhase (with_phase old j r) k p ask new
write_over old j k r p ask new e writes = grind (arith, set-set)

pub adopts : (range : SlotRange) (old : List Slot) (k : LifeKey) (stopped : Bool) (phase : Phase) (ask : Option ℕ) (new : List Slot) → k.slot < length old
    → k.number ≡ (slot_numbered old k.slot).number + 1 → k.number ≤ MOST_LIVES → is_adoptable (phase_at old k.slot) ≡ true → unless_live stopped (Live 0 0) ≡ phase
    → WritesPhase old k phase ask new → AdoptsFile (machine_with old range stopped) k ask (machine_with new range stopped)
adopts range old k stopped phase ask new inside number most may leaves writes = elim (adoptable (phase_at old k.slot) may) [
  | inl e ↦ (machine_with old range stopped, inl refl, asks range old (Adopts k) (inside, number, e, most) stopped phase ask new (ap (phase_left stopped (Adopts k)) e ∙ leaves) writes)
  | inr e ↦
      let j = life_at old k.slot in let d = Closes j in let can : IsEnabled old d = ((inside, refl), ap may_close e) in let here = after-here old d inside in
      let free : phase_at (slots_with old d) k.slot ≡ Free = ap (λ (s : Slot). s.phase) here ∙ ap when_closed e in
      let next : k.number ≡ (slot_numbered (slots_with old d) k.slot).number + 1 = number ∙ ap (λ (s : Slot). s.number + 1) (sym here) in (
        machine_with (slots_with old d) range stopped,
        inr (can, refl),
        asks range (slots_with old d) (Adopts k) (rw (after-length old d) inside, next, free, most) stopped phase ask new (ap (phase_left stopped (Adopts k)) free ∙ leaves)
            (write_over old j k (when_closed (phase_at old k.slot)) phase ask new refl writes),
      )
]
