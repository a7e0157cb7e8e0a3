-- Each transition keeps each key's counts balanced.
use Rattle.fx_direct.proofs.Words.{arith, ◌≡◌, ◌≢◌, ℕ, ◌+◌, ◌<◌, ◌≤◌, ◌==◌, ◌⊎◌, inl, inr, Bool, true, false, List, [], ◌∷◌, refl, sym, ap, ◌∙◌, subst}
use Rattle.fx_direct.proofs.Words.{if◌then◌else◌, cases_eq, eq-eqb, ne_eqb, Transition, LifeKey, Phase, Slot, ChainOpen, ChainEnd, Reserves, Opening, Chained, Installed, Failed, Took, Free}
use Rattle.fx_direct.proofs.Words.{AllFree, AreEnabled, slots_left_by, slot_numbered, phase_at, requests_in, is_live, is_installed, is_closing, is_chained, chain_phase, bit}
use Rattle.fx_direct.proofs.Words.{key_concerned, FitsPhase, IsEnabled, phase_after, slots_with, same_key, Adopts, when_opened}
use Rattle.fx_direct.proofs.Words.{ends_anyway, may_open, may_end, when_ended, when_left}
use Rattle.fx_direct.specs.Counts.{times, of_key, reserves, chains, opens, starts, finishes, holds, releases, ends, asks, closes, fails, is_early, phase_of}
use Rattle.fx_direct.specs.Counts.{EachKeyIsBalanced, IsBalanced, KeysAreGivenOnce, NothingIsLeftOfALife}
use Rattle.fx_direct.proofs.Moves.{after-here, after-else}
use Rattle.fx_direct.proofs.Turns.{within}

abbrev not_installed : ChainOpen → Bool
not_installed Installed = false
not_installed opened = true

-- a close took a file of an open that failed
abbrev contradict : ChainOpen → ChainEnd → Bool
contradict Failed Took = true
contradict opened end = false

-- the open of the life wasn't seen to succeed
abbrev pub is_unopened : Phase → Bool
is_unopened Opening = true
is_unopened (Chained c) = not_installed c.opened
is_unopened p = false

-- a life begins
abbrev pub is_new : Transition → Bool
is_new (Reserves k) = true
is_new (Adopts k) = true
is_new t = false

-- the chain isn't over, and its completions don't contradict each other
abbrev pub IsProper : Phase → Type 0
IsProper (Chained c) = (chain_phase c.requests c.opened c.end ≡ Chained c) × (contradict c.opened c.end ≡ false)
IsProper p = Unit {0}

-- what a life's phase says of its beginning
pub record IsBegun (h : List Transition) (k : LifeKey) (p : Phase) : Type 0 where
  pub unopened : is_unopened p ≡ true → (times (opens k) h ≡ 0) × (times (ends k) h ≡ bit (ends_anyway p))
  pub chained : is_chained p ≡ true → 1 ≤ times (chains k) h
  pub live : is_live p ≡ true → 1 ≤ times (opens k) h

-- balanced, and given only if the slot's number has come so far
pub record Kept (h : List Transition) (k : LifeKey) (number : ℕ) (p : Phase) : Type 0 where
  pub balance : IsBalanced h k p
  pub begun : IsBegun h k p
  pub proper : IsProper p
  pub unborn : number < k.number → (times (reserves k) h ≡ 0) × (times (ends k) h ≡ 0)

-- A transition of the key.

pub proper_after : (d : Transition) (p : Phase) → FitsPhase d p → IsProper p → IsProper (phase_after d p)
proper_after d p may proper = grind arith

of_same : (j k : LifeKey) (n : ℕ) → same_key j k ≡ true → of_key j k n ≡ n
of_same j k n same = rw same refl

of_other : (j k : LifeKey) (n : ℕ) → same_key j k ≡ false → of_key j k n ≡ 0
of_other j k n other = rw other refl

-- Closes that are asked for.

asked_opens : (p : Phase) (installed : Bool) → may_open installed p ≡ true → IsProper p
    → bit installed + bit (is_early (when_opened installed p)) + bit (is_installed p) ≡ bit (is_installed (when_opened installed p)) + bit (is_early p)
asked_opens p installed may proper = grind arith

asked_ends : (p : Phase) → may_end p ≡ true → bit (is_early (when_ended p)) + bit (is_installed p) ≡ bit (is_installed (when_ended p)) + bit (is_early p)
asked_ends p may = grind arith

asked_fails : (p : Phase) → is_closing p ≡ true → 1 + bit (is_early (when_left p)) + bit (is_installed p) ≡ bit (is_installed (when_left p)) + bit (is_early p)
asked_fails p may = grind arith

asked_phases : (p q : Phase) → p ≡ q → (bit (is_early p) ≡ bit (is_early q)) × (bit (is_installed p) ≡ bit (is_installed q))
asked_phases p q e = (ap (λ (r : Phase). bit (is_early r)) e, ap (λ (r : Phase). bit (is_installed r)) e)

for_asked : (k : LifeKey) (d : Transition) (p : Phase) → FitsPhase d p → IsProper p → same_key (key_concerned d) k ≡ true
    → opens k d + fails k d + bit (is_early (phase_after d p)) + bit (is_installed p) ≡ asks k d + bit (is_installed (phase_after d p)) + bit (is_early p)
for_asked k d p may proper same = grind (arith, asked_phases, of_same, asked_opens, asked_ends, asked_fails)

-- what the transition adds to the counts, and what it changes in the phase
module _ (k : LifeKey) (d : Transition) (p : Phase) (may : FitsPhase d p) (proper : IsProper p) (same : same_key (key_concerned d) k ≡ true) where
  abbrev p' : Phase
  p' = phase_after d p

  for_requests : requests_in p' + finishes k d ≡ requests_in p + starts k d
  for_requests = grind (arith, of_same)

  for_closed : asks k d + bit (is_closing p) ≡ closes k d + fails k d + bit (is_closing p')
  for_closed = grind (arith, of_same)

  for_unopened : is_unopened p' ≡ true → ((is_unopened p ≡ true) × (opens k d ≡ 0) × (bit (ends_anyway p') ≡ bit (ends_anyway p) + ends k d))
      ⊎ ((is_new d ≡ true) × (opens k d ≡ 0) × (ends k d ≡ 0) × (bit (ends_anyway p') ≡ 0))
  for_unopened is = grind (arith, of_same)

  for_reserves : (reserves k d ≡ 0) ⊎ ((reserves k d ≡ 1) × (is_new d ≡ true))
  for_reserves = grind (arith, of_same)

  balanced : (h : List Transition) → (is_new d ≡ true → (times (reserves k) h ≡ 0) × (times (ends k) h ≡ 0))
      → IsBalanced h k p → IsBegun h k p → IsBalanced (d ∷ h) k p'
  balanced h new b begun = record {
    requests = omega (arith, b.requests, for_requests);
    users = grind (arith, b.users);
    ended = grind arith;
    early = grind arith;
    asked = omega (arith, b.asked, for_asked k d p may proper same);
    closed = omega (arith, b.closed, for_closed);
    once = elim for_reserves [ inl e ↦ omega (arith, e, b.once) | inr e ↦ omega (arith, e.0, (new e.1).0) ];
    opened = grind (arith, b.opened);
  }

  begun_after : (h : List Transition) → (is_new d ≡ true → (times (reserves k) h ≡ 0) × (times (ends k) h ≡ 0))
      → IsBalanced h k p → IsBegun h k p → IsBegun (d ∷ h) k p'
  begun_after h new b begun = grind (arith, for_unopened)

-- a transition of another key counts for nothing
module _ (k : LifeKey) (d : Transition) (apart : same_key (key_concerned d) k ≡ false) where
  none : (reserves k d ≡ 0) × (chains k d ≡ 0) × (opens k d ≡ 0) × (starts k d ≡ 0) × (finishes k d ≡ 0) × (holds k d ≡ 0) × (releases k d ≡ 0)
      × (ends k d ≡ 0) × (asks k d ≡ 0) × (closes k d ≡ 0) × (fails k d ≡ 0)
  none = grind (arith, of_other)

  pub no_ends : ends k d ≡ 0
  no_ends = none.7

pub possible : (slots : List Slot) (d : Transition) → IsEnabled slots d → FitsPhase d (phase_at slots (key_concerned d).slot)
possible slots d can = grind arith

-- the phase of a key whose number the slot has, and of one whose number it hasn't
pub phase_here : (slots : List Slot) (k : LifeKey) → (slot_numbered slots k.slot).number ≡ k.number → phase_of slots k ≡ phase_at slots k.slot
phase_here slots k e = rw (eq-eqb (slot_numbered slots k.slot).number k.number e) refl

pub phase_else : (slots : List Slot) (k : LifeKey) → (slot_numbered slots k.slot).number ≢ k.number → phase_of slots k ≡ Free
phase_else slots k ne = rw (ne_eqb (slot_numbered slots k.slot).number k.number ne) refl

-- the phase of a key at a free slot
phase_free : (slots : List Slot) (k : LifeKey) → phase_at slots k.slot ≡ Free → phase_of slots k ≡ Free
phase_free slots k free = grind (arith, phase_here, phase_else)

-- the number of a transition's slot before it
pub number_before : (slots : List Slot) (d : Transition) → IsEnabled slots d
    → ((slot_numbered slots (key_concerned d).slot).number ≡ (key_concerned d).number)
    ⊎ (((key_concerned d).number ≡ (slot_numbered slots (key_concerned d).slot).number + 1) × (phase_at slots (key_concerned d).slot ≡ Free) × (is_new d ≡ true))
number_before slots d can = grind arith

pub grows : (slots : List Slot) (d : Transition) → IsEnabled slots d → (slot_numbered slots (key_concerned d).slot).number ≤ (key_concerned d).number
grows slots d can = elim (number_before slots d can) [ inl e ↦ omega arith | inr w ↦ omega (arith, w.0) ]

new_of : (slots : List Slot) (d : Transition) → IsEnabled slots d → is_new d ≡ true → (slot_numbered slots (key_concerned d).slot).number < (key_concerned d).number
new_of slots d can e = grind arith

one_key : (j k : LifeKey) → j.slot ≡ k.slot → j.number ≡ k.number → same_key j k ≡ true
one_key j k e n = rw (eq-eqb j.slot k.slot e, eq-eqb j.number k.number n) refl

pub two_slots : (j k : LifeKey) → j.slot ≢ k.slot → same_key j k ≡ false
two_slots j k ne = rw (ne_eqb j.slot k.slot ne) refl

two_numbers : (j k : LifeKey) → j.slot ≡ k.slot → j.number ≢ k.number → same_key j k ≡ false
two_numbers j k e ne = rw (eq-eqb j.slot k.slot e, ne_eqb j.number k.number ne) refl

abbrev pub KeptAt : List Slot → List Transition → LifeKey → Type 0
KeptAt slots h k = Kept h k (slot_numbered slots k.slot).number (phase_of slots k)

-- the facts of equal phases
at_phase : {h : List Transition} {k : LifeKey} {n n' : ℕ} {p q : Phase} → p ≡ q → n ≡ n' → Kept h k n p → Kept h k n' q
at_phase e1 e2 kept = rw (← e1, ← e2) kept

other_kept : (d : Transition) (h : List Transition) (k : LifeKey) (n n' : ℕ) (p : Phase) → same_key (key_concerned d) k ≡ false → (n' < k.number → n < k.number)
    → Kept h k n p → Kept (d ∷ h) k n' p
other_kept d h k n n' p none later kept = grind (arith, none)

one_deed : (slots : List Slot) (h : List Transition) (d : Transition) (k : LifeKey) → IsEnabled slots d → KeptAt slots h k → KeptAt (slots_with slots d) (d ∷ h) k
one_deed slots h d k can kept = elim (cases_eq (key_concerned d).slot k.slot) [
  | inl e ↦
      let here : slot_numbered (slots_with slots d) k.slot ≡ record { number = (key_concerned d).number; phase = phase_after d (phase_at slots (key_concerned d).slot) } =
      subst (λ (s : ℕ). slot_numbered (slots_with slots d) s ≡ record { number = (key_concerned d).number; phase = phase_after d (phase_at slots (key_concerned d).slot) }) e
      (after-here slots d (within slots d can)) in
      let number : (slot_numbered (slots_with slots d) k.slot).number ≡ (key_concerned d).number = ap (λ (s : Slot). s.number) here in
      let before : (slot_numbered slots (key_concerned d).slot).number ≡ (slot_numbered slots k.slot).number = ap (λ (s : ℕ). (slot_numbered slots s).number) e in
      elim (cases_eq (key_concerned d).number k.number) [
        | inl n ↦
            let was : phase_of slots k ≡ phase_at slots (key_concerned d).slot = grind (arith, before, number_before, phase_here, phase_free) in
            let is : phase_of (slots_with slots d) k ≡ phase_after d (phase_at slots (key_concerned d).slot) =
            phase_here (slots_with slots d) k (number ∙ n) ∙ ap (λ (s : Slot). s.phase) here in
            let old = at_phase was refl kept in let p = phase_at slots (key_concerned d).slot in
            let may = possible slots d can in let same = one_key (key_concerned d) k e n in
            let new : is_new d ≡ true → (times (reserves k) h ≡ 0) × (times (ends k) h ≡ 0) =
            λ r. kept.unborn (let lt = new_of slots d can r in omega arith) in
            at_phase (sym is) refl (record {
              balance = balanced k d p may old.proper same h new old.balance old.begun;
              begun = begun_after k d p may old.proper same h new old.balance old.begun;
              proper = proper_after d p may old.proper;
              unborn = λ lt. absurd (omega arith);
            })
        | inr nn ↦ grind (arith, number_before, phase_else, phase_free, at_phase, other_kept, two_numbers, grows)
      ]
  | inr ne ↦
      let same : slot_numbered (slots_with slots d) k.slot ≡ slot_numbered slots k.slot = after-else slots d k.slot (λ (e : k.slot ≡ (key_concerned d).slot). ne (sym e)) in
      let is : phase_of (slots_with slots d) k ≡ phase_of slots k = ap (λ (s : Slot). if s.number == k.number then s.phase else Free) same in
      at_phase (sym is) refl (other_kept d h k (slot_numbered slots k.slot).number (slot_numbered (slots_with slots d) k.slot).number (phase_of slots k)
      (two_slots (key_concerned d) k ne) (λ lt. let n = ap (λ (s : Slot). s.number) same in omega arith) kept)
]

nothing : (k : LifeKey) (n : ℕ) → Kept [] k n Free
nothing k n = grind arith

pub kept_always : (start : List Slot) (h : List Transition) (k : LifeKey) → AllFree start → AreEnabled start h → KeptAt (slots_left_by start h) h k
kept_always start [] k free can = at_phase (sym (phase_free start k (free k.slot))) refl (nothing k (slot_numbered start k.slot).number)
kept_always start (d ∷ h) k free can = one_deed (slots_left_by start h) h d k can.1 (kept_always start h k free can.0)

pub each_key_is_balanced : EachKeyIsBalanced
each_key_is_balanced start h k free can = (kept_always start h k free can).balance

pub nothing_is_left_of_a_life : NothingIsLeftOfALife
nothing_is_left_of_a_life start h given earlier free can may same =
    grind (arith, phase_free (slots_left_by start h) earlier (ap (phase_at (slots_left_by start h)) same ∙ may.2), kept_always start h earlier free can, kept_always start h given free can, may.1)

pub keys_are_given_once : KeysAreGivenOnce
keys_are_given_once start h k free can = (kept_always start h k free can).balance.once
