-- The invariant of flights, and a transition of the machine.
use Rattle.fx_direct.proofs.Words.{common_steps, arith, ◌≡◌, ◌≢◌, ℕ, ◌+◌, ◌<◌, ◌≤◌, true, List, [], ◌∷◌, ◌++◌, length, refl, sym, ap, inl, inr, ◌∙◌}
use Rattle.fx_direct.proofs.Words.{subst, cases_eq, get_or-set_same, get_or-set_other, length-set, LifeKey, Phase, Slot, State, Member}
use Rattle.fx_direct.proofs.Words.{AllByRecursion, is_chained, has_chain, Pending, DirectMoment, Does, Transition, life_at, slot_numbered, phase_at}
use Rattle.fx_direct.proofs.Words.{key_concerned, phase_after, slots_with, files_under}
use Rattle.fx_direct.proofs.Calls.{NextHas, next_same, Ranged, is_reserved, place_of, tally, at_other, tally-mid, count_in, each-both, is_bound, Fate, Has, FitsAt, fits_same, has_same, suits}

abbrev pub Fitting : List Slot → (ℕ → Fate) → Pending → Type 0
Fitting slots fate p = FitsAt p (length slots) (slot_numbered slots (place_of p)) (fate (place_of p))

-- the key of the slot's next life
abbrev pub next_at : List Slot → ℕ → LifeKey
next_at slots s = record { slot = s; number = (slot_numbered slots s).number + 1 }

-- the calls in flight are those that the machine counts, and each slot has a file as its phase and
-- its calls say
pub record Sound (fate : ℕ → Fate) (slots : List Slot) (table : State) (calls : List Pending) (h : List DirectMoment) : Type 0 where
  pub inside : length slots ≤ table.size
  pub counted : (m : Member) (s : ℕ) → tally m s calls ≡ count_in m (phase_at slots s)
  pub suit : (s : ℕ) → suits (fate s) (phase_at slots s) ≡ true
  pub has : (s : ℕ) → s < length slots → Has (fate s) (table.at s) (files_under (life_at slots s) h)
  pub linked : (s : ℕ) → is_chained (phase_at slots s) ≡ true → has_chain (life_at slots s) h ≡ true
  pub fits : AllByRecursion (Fitting slots fate) calls
  pub next : (s : ℕ) → s < length slots → NextHas (fate s) (table.at s) (files_under (next_at slots s) h)
  pub ranged : (s : ℕ) → Ranged table s (fate s) (phase_at slots s)
  pub unborn : (k : LifeKey) → (slot_numbered slots k.slot).number < k.number → (k.slot < length slots → (slot_numbered slots k.slot).number + 1 < k.number) → files_under k h ≡ []

abbrev written : Transition → List Slot → Slot
written d slots = record { number = (key_concerned d).number; phase = phase_after d (phase_at slots (key_concerned d).slot) }

pub after-here : (slots : List Slot) (d : Transition) → (key_concerned d).slot < length slots → slot_numbered (slots_with slots d) (key_concerned d).slot ≡ written d slots
after-here slots d inside = grind (arith, get_or-set_same)

pub after-else : (slots : List Slot) (d : Transition) (s : ℕ) → s ≢ (key_concerned d).slot → slot_numbered (slots_with slots d) s ≡ slot_numbered slots s
after-else slots d s ne = grind (arith, get_or-set_other)

pub after-length : (slots : List Slot) (d : Transition) → length (slots_with slots d) ≡ length slots
after-length slots d = grind (arith, length-set)

-- what holds at a slot and at each other one
pub by_slot : (X : ℕ → Type 0) (s0 : ℕ) → X s0 → ((s : ℕ) → s ≢ s0 → X s) → (s : ℕ) → X s
by_slot X s0 here away s = elim (cases_eq s s0) [ inl e ↦ subst X (sym e) here | inr ne ↦ away s ne ]

-- a chain that was submitted stays so
pub linked_more : (k : LifeKey) (d : Transition) (h : List DirectMoment) → has_chain k h ≡ true → has_chain k (Does d ∷ h) ≡ true
linked_more k d h e = grind arith

-- the machine turns one slot
module _ {fate : ℕ → Fate} {slots : List Slot} {table : State} {calls : List Pending} {h : List DirectMoment} (sound : Sound fate slots table calls h)
    (d : Transition) (within : (key_concerned d).slot < length slots) where
  abbrev k : LifeKey
  k = key_concerned d

  abbrev p : Phase
  p = phase_at slots k.slot

  abbrev p' : Phase
  p' = phase_after d p

  -- what holds of the slot that was written and of each other one
  by_deed : (X : ℕ → Slot → Type 0) → X k.slot (written d slots) → ((s : ℕ) → s ≢ k.slot → X s (slot_numbered slots s))
      → (s : ℕ) → X s (slot_numbered (slots_with slots d) s)
  by_deed X here away = grind (arith, by_slot, after-here, after-else)

  pub turned : (fate' : ℕ → Fate) (calls' : List Pending) → ((s : ℕ) → s ≢ k.slot → fate' s ≡ fate s)
      → ((m : Member) → tally m k.slot calls' ≡ count_in m p')
      → ((m : Member) (s : ℕ) → s ≢ k.slot → tally m s calls' ≡ tally m s calls)
      → suits (fate' k.slot) p' ≡ true
      → Has (fate' k.slot) (table.at k.slot) (files_under k h)
      → (is_chained p' ≡ true → has_chain k (Does d ∷ h) ≡ true)
      → AllByRecursion (Fitting (slots_with slots d) fate') calls'
      → (slot_numbered slots k.slot).number ≤ k.number
      → NextHas (fate' k.slot) (table.at k.slot) (files_under (record { slot = k.slot; number = k.number + 1 }) h)
      → Ranged table k.slot (fate' k.slot) p'
      → Sound fate' (slots_with slots d) table calls' (Does d ∷ h)
  turned fate' calls' same count others suit has linked fits grows next ranged = record {
    inside = rw (after-length slots d) sound.inside;
    counted = grind (arith, after-here, after-else);
    suit = by_deed (λ s x. suits (fate' s) x.phase ≡ true) suit (λ s ne. rw (same s ne) (sound.suit s));
    has = by_deed (λ s x. s < length (slots_with slots d) → Has (fate' s) (table.at s) (files_under (record { slot = s; number = x.number }) h))
        (λ lt. has) (λ s ne lt. rw (same s ne) (sound.has s (rw (← after-length slots d) lt)));
    linked = by_deed (λ s x. is_chained x.phase ≡ true → has_chain (record { slot = s; number = x.number }) (Does d ∷ h) ≡ true)
        linked (λ s ne c. linked_more (life_at slots s) d h (sound.linked s c));
    fits = fits;
    next = by_deed (λ s x. s < length (slots_with slots d) → NextHas (fate' s) (table.at s) (files_under (record { slot = s; number = x.number + 1 }) h))
        (λ lt. next) (λ s ne lt. rw (same s ne) (sound.next s (rw (← after-length slots d) lt)));
    ranged = by_deed (λ s x. Ranged table s (fate' s) x.phase) ranged (λ s ne. rw (same s ne) (sound.ranged s));
    unborn = grind (arith, after-here, after-length, after-else);
  }

  -- a call fits as before, if it is linked or at another slot where the life is chained
  abbrev pub Binds : Pending → Type 0
  Binds x = place_of x ≡ k.slot → is_chained p' ≡ true → is_bound x.call x.linked ≡ true

  stays : (slot_numbered slots k.slot).number ≡ k.number → (x : Pending) → Fitting slots fate x → Binds x → Fitting (slots_with slots d) fate x
  stays num x fit binds = grind (arith, common_steps, after-here, after-length, fits_same, after-else)

  -- the file of the slot stays where it is
  pub still : (calls' : List Pending) → (slot_numbered slots k.slot).number ≡ k.number
      → ((m : Member) → tally m k.slot calls' ≡ count_in m p')
      → ((m : Member) (s : ℕ) → s ≢ k.slot → tally m s calls' ≡ tally m s calls)
      → suits (fate k.slot) p' ≡ true
      → (is_chained p' ≡ true → has_chain k (Does d ∷ h) ≡ true)
      → AllByRecursion (Fitting slots fate) calls'
      → AllByRecursion Binds calls'
      → (is_reserved p' ≡ true → is_reserved p ≡ true)
      → Sound fate (slots_with slots d) table calls' (Does d ∷ h)
  still calls' num count others suit linked fits binds reserved =
      turned fate calls' (λ s ne. refl) count others suit (grind (arith, has_same)) linked
      (each-both (Fitting slots fate) Binds (Fitting (slots_with slots d) fate) calls' (stays num) fits binds)
      (omega arith)
      (next_same {fate = fate k.slot} refl refl (sym (ap (λ (n : ℕ). files_under (record { slot = k.slot; number = n + 1 }) h) num)) (sound.next k.slot within))
      ((sound.ranged k.slot).0, λ r. (sound.ranged k.slot).1 (reserved r))

  -- one more call at the slot
  pub more : (x : Pending) → place_of x ≡ k.slot → (m : Member) (s : ℕ) → s ≢ k.slot → tally m s (x ∷ calls) ≡ tally m s calls
  more x e m s ne = let o = at_other m s x (λ (q : place_of x ≡ s). ne (sym q ∙ e)) in omega arith

  -- a call at the slot is over
  pub less : (x : Pending) (front rest : List Pending) → place_of x ≡ k.slot → calls ≡ front ++ x ∷ rest → (m : Member) (s : ℕ) → s ≢ k.slot
      → tally m s (front ++ rest) ≡ tally m s calls
  less x front rest e was m s ne = grind (arith, at_other, tally-mid)
