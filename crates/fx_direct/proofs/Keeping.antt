-- The machine's order fits its slots after one of them was written.
use Rattle.fx_direct.proofs.Words.{arith, ◌≡◌, ◌≢◌, ℕ, ◌<◌, ◌≤◌, ◌==◌, ◌&&◌, Bool, true, false, if◌then◌else◌, eq-eqb, ne_eqb, List, length, refl, sym, subst}
use Rattle.fx_direct.proofs.Words.{common_steps, Option, Some, None, LifeKey, Phase, Slot, Closing, is_free, with_phase, HasLife, Chained}
use Rattle.fx_direct.proofs.Words.{Member, GoesOn, not, IsMachine, WritesPhase, is_vacant, Order, is_among_vacant, is_ranged, MOST_LIVES}
use Rattle.std.specs.Prelude.{nat_lt}

-- the slots that are vacant after one was written
abbrev pub Vacates : Order → Order → LifeKey → Phase → Type 0
Vacates order order' k q =
    (s : ℕ) → s < order.size
    → is_among_vacant order' s ≡ (if s == k.slot then (is_free q && nat_lt k.number MOST_LIVES) && not (is_ranged order.range k.slot) else is_among_vacant order s)

if_same : (s t : ℕ) (a b : Bool) → s ≡ t → (if s == t then a else b) ≡ a
if_same s t a b e = rw (eq-eqb s t e) refl

if_other : (s t : ℕ) (a b : Bool) → s ≢ t → (if s == t then a else b) ≡ b
if_other s t a b ne = rw (ne_eqb s t ne) refl

module _ (slots : List Slot) (order : Order) (machine : IsMachine slots order) (k : LifeKey) (inside : k.slot < length slots) where
  pub kept : (order' : Order) (q : Phase) → k.number ≤ MOST_LIVES → order'.size ≡ order.size → order'.range ≡ order.range → Vacates order order' k q
      → IsMachine (with_phase slots k q) order'
  kept order' q most same range vacates = grind (arith, common_steps, if_same, is_free, if_other)

  pub number_fits : HasLife slots k → k.number ≤ MOST_LIVES
  number_fits life = let m = machine.numbers k.slot in let n = life.0.1 in omega arith

  -- no slot is vacated
  stays : (q : Phase) → HasLife slots k → is_free q ≡ false → Vacates order order k q
  stays q life busy s lt = grind (arith, is_free, if_same, if_other)

  pub written : (q : Phase) (ask : Option ℕ) (new : List Slot) → HasLife slots k → is_free q ≡ false → WritesPhase slots k q ask new → IsMachine new order
  written q None new life busy writes = subst (λ (xs : List Slot). IsMachine xs order) (sym writes.0) (kept order q (number_fits life) refl refl (stays q life busy))
  written q (Some slot) new life busy writes = subst (λ (xs : List Slot). IsMachine xs order) (sym writes.2) (kept order Closing (number_fits life) refl refl (stays Closing life refl))

  pub vacated : (order' : Order) (q : Phase) (ask : Option ℕ) (new : List Slot) → HasLife slots k → order'.size ≡ order.size → order'.range ≡ order.range
      → Vacates order order' k q → WritesPhase slots k q ask new → IsMachine new order'
  vacated order' q None new life same range vacates writes = subst (λ (xs : List Slot). IsMachine xs order') (sym writes.0) (kept order' q (number_fits life) same range vacates)
  vacated order' q (Some slot) new life same range vacates writes = grind (arith, kept, number_fits, is_free, kept order' Closing (number_fits life) same range (grind (arith, is_free)))

-- a chain goes on, or nothing changes
pub goes_on : (slots : List Slot) (order : Order) → IsMachine slots order → (k : LifeKey) (m : Member) (went : Bool) (new : List Slot) → (went ≡ true → GoesOn slots k m new)
    → (went ≡ false → new ≡ slots) → IsMachine new order
goes_on slots order machine k m true new goes stays = let g = goes refl in written slots order machine k g.0.0.0 (Chained g.2) None new g.0 refl (g.5, λ due. cc)
goes_on slots order machine k m false new goes stays = subst (λ (xs : List Slot). IsMachine xs order) (sym (stays refl)) machine

pub number_left : (x : Slot) (b : Bool) → (is_vacant x && b) ≡ true → x.number < MOST_LIVES
number_left x b vacant = grind arith
