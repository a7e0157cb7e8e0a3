-- The counts of all slots, and one slot that is written.
use Rattle.std.proofs.Common.{rules}
use Rattle.fx_direct.proofs.Words.{arith, ◌≡◌, ℕ, zero, suc, ◌+◌, ◌-◌, ◌<◌, ◌≤◌, List, [], ◌∷◌, length, refl, ap, Phase, Slot, unused, phase_at, slot_numbered}
use Rattle.fx_direct.proofs.Words.{calls_in, lives_in, Chained, LifeKey, LifeChain, Member, AreCounted, GoesOn, KeepsChain, with_phase}
use Rattle.fx_direct.proofs.Words.{calls_in_flight, lives_of, ◌*◌, ◌^◌, get_or_default, get_or_past, sum_by}
use Rattle.std.specs.Prelude.{slice_index_or}
use Rattle.std.proofs.lemmas.List.Sums.{sum_by-le, sum_by-cons, sum_by-set}

pub one_life : (p : Phase) → lives_in p ≤ 1
one_life p = grind arith

pub lives_high : (slots : List Slot) → lives_of slots ≤ length slots
lives_high slots =
    let h : lives_of slots ≤ length slots * 1 = sum_by-le (λ (s : Slot). lives_in s.phase) 1 slots (λ k d lt. one_life _) in
    omega arith

pub calls_high : (slots : List Slot) → ((slot : ℕ) → calls_in (phase_at slots slot) ≤ 2 ^ 32 + 1) → calls_in_flight slots ≤ length slots * (2 ^ 32 + 1)
calls_high slots each = sum_by-le (λ (s : Slot). calls_in s.phase) (2 ^ 32 + 1) slots (λ k d lt.
    let e : calls_in (slice_index_or slots k d).phase ≡ calls_in (phase_at slots k) = ap (λ (s : Slot). calls_in s.phase) (get_or_default slots k d unused lt) in
    let f = each k in omega arith)

-- a sum is 0 if and only if each of its numbers is

each_below : (f : Slot → ℕ) (slots : List Slot) (s : ℕ) → s < length slots → f (slot_numbered slots s) ≤ sum_by f slots
each_below f [] s lt = absurd (omega arith)
each_below f (x ∷ slots) zero lt = let e = sum_by-cons f x slots in omega arith
each_below f (x ∷ slots) (suc s) lt = let e = sum_by-cons f x slots in let below = each_below f slots s (omega arith) in omega arith

pub each_none : (f : Slot → ℕ) (slots : List Slot) (s : ℕ) → f unused ≡ 0 → sum_by f slots ≡ 0 → f (slot_numbered slots s) ≡ 0
each_none f slots s past none = grind (arith, each_below, get_or_past)

pub none_of_all : (f : Slot → ℕ) (slots : List Slot) → ((s : ℕ) → f (slot_numbered slots s) ≡ 0) → sum_by f slots ≡ 0
none_of_all f slots each =
    let h : sum_by f slots ≤ length slots * 0 = sum_by-le f 0 slots (λ k d lt. let e = ap f (get_or_default slots k d unused lt) in let z = each k in omega arith) in
    omega arith

-- there is room for one more
pub few_counted : (slots : List Slot) (lives calls : ℕ) → AreCounted slots lives calls → (lives < 2 ^ 31) × (calls < 2 ^ 63)
few_counted slots lives calls counted = grind (arith, lives_high, calls_high)

-- a chain goes on
module _ (slots : List Slot) (lives calls : ℕ) (counted : AreCounted slots lives calls) (k : LifeKey) (m : Member) (c d : LifeChain) (inside : k.slot < length slots)
    (here : slot_numbered slots k.slot ≡ record { number = k.number; phase = Chained c }) (keeps : KeepsChain k m c d) where
  abbrev new : List Slot
  new = with_phase slots k (Chained d)

  pub one_over : 1 ≤ calls
  one_over = let e = ap (λ (s : Slot). calls_in s.phase) here in let k2 = keeps.2 in let are = counted.calls_are in let below = each_below (λ s. calls_in s.phase) slots k.slot inside in omega arith

  pub still_counted : AreCounted new lives (calls - 1)
  still_counted = search (rules, sum_by-set, one_over)

  pub goes_on : GoesOn slots k m new
  goes_on = (((inside, ap (λ (s : Slot). s.number) here), λ free. let e = ap (λ (s : Slot). s.phase) here in cc), c, d, ap (λ (s : Slot). s.phase) here, keeps, refl)
