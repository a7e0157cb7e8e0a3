-- The reason of a call that failed: another pass was at the slot.
use Rattle.fx_lasting.proofs.{◌≡◌, ◌≢◌, ℕ, ◌+◌, ◌<◌, ◌≤◌, List, [], ◌∷◌, ◌++◌, length, sym, refl, ap, ◌∙◌, subst, arith, ⊎_elim, inl}
use Rattle.fx_lasting.proofs.{inr, dite, ℕ_discrete, eq-eqb, ne_eqb, Event, Action, IsSeenBy, seen_further, part_of_pass, state_after_all}
use Rattle.fx_lasting.proofs.{changed_else, Start, ReplacesAt, HasActed, HasReplaced, ◌▷◌, pass_in, Sat, Sees, At, slot_of, IsWatching}
use Rattle.fx_lasting.proofs.{WasOvertakenIn, Runs, view_of, LastingPass, WasOvertaken, WasLost, changes_in, changes_at, meetings, FailsToFill, Work}
use Rattle.fx_lasting.proofs.{Glance, Change, WasSo, FitsSight, true, false, FallsShort, FellShort, acted_before, acted_further}
use Rattle.fx_lasting.specs.Ends.{Does}

-- an event that fills or empties the slot within the history `since` after `h`
abbrev Acted : ℕ → List Event → List Event → Type 0
Acted slot h h' = (mid : List Event) × (e : Event) × IsSeenBy h mid × IsSeenBy (mid ▷ e) h' × ReplacesAt slot e.action

changed_by : (k : Start) (slot : ℕ) (h since : List Event) → (state_after_all k (since ++ h)).at slot ≢ (state_after_all k h).at slot → Acted slot h (since ++ h)
changed_by k slot h [] other = absurd (other refl)
changed_by k slot h (e ∷ since) other = ⊎_elim
    (λ same. let z = changed_by k slot h since (λ is. other (same ∙ is)) in
    (z.0, z.1, z.2, seen_further (z.0 ▷ z.1) (since ++ h) (e ∷ (since ++ h)) z.3 (e ∷ [], refl), z.4))
    (λ acts. (since ++ h, e, (since, refl), ([], refl), acts))
    (grind (arith, changed_else))

-- the events of a pass are as many as before, or more
part_here : (q : ℕ) (e : Event) (h : List Event) → e.pass ≡ q → length (part_of_pass q (e ∷ h)) ≡ length (part_of_pass q h) + 1
part_here q e h is = rw (eq-eqb e.pass q is) (omega arith)

part_more : (q : ℕ) (e : Event) (h : List Event) → length (part_of_pass q h) ≤ length (part_of_pass q (e ∷ h))
part_more q e h = dite (ℕ_discrete e.pass q) (λ same. omega (arith, part_here q e h same)) (λ other. rw (ne_eqb e.pass q other) (omega arith))

part_since : (q : ℕ) (h since : List Event) → length (part_of_pass q h) ≤ length (part_of_pass q (since ++ h))
part_since q h [] = omega arith
part_since q h (e ∷ since) = omega (arith, part_since q h since, part_more q e (since ++ h))

part_long : (q : ℕ) {a b : List Event} → IsSeenBy a b → length (part_of_pass q a) ≤ length (part_of_pass q b)
part_long q {a} {b} seen = subst (λ (l : List Event). length (part_of_pass q a) ≤ length (part_of_pass q l)) (sym seen.1) (part_since q a seen.0)

-- a pass that did nothing isn't the author of an event meanwhile
not_mine : (q : ℕ) {v w mid : List Event} {e : Event} → part_of_pass q w ≡ part_of_pass q v → IsSeenBy v mid → IsSeenBy (mid ▷ e) w → e.pass ≢ q
not_mine q {v} {w} {mid} {e} same before seen mine = let a = ap (length {A = Event}) same in
    let b = part_long q before in let c = part_long q seen in let d = part_here q e mid mine in absurd (omega (arith, a, b, c, d))

-- a slot that was empty and is full: another pass filled it
pub filled_by : (k : Start) (slot q : ℕ) {v a b c w : List Event} → part_of_pass q w ≡ part_of_pass q v → WasSo k slot (FitsSight false) v a → IsSeenBy a b
    → WasSo k slot (FitsSight true) b c → IsSeenBy c w → HasReplaced slot q v w
filled_by k slot q {v} {a} {b} {c} {w} same was more is last =
    let between = seen_further was.history b is.history (seen_further was.history a b was.seen more) is.later in
    let z : Acted slot was.history is.history = grind (arith, between, changed_by) in
    let seen = seen_further (z.0 ▷ z.1) is.history w z.3 (seen_further is.history c w is.seen last) in
    let later = seen_further v was.history z.0 was.later z.2 in record {
      history = z.0;
      event = z.1;
      later = later;
      seen = seen;
      another = not_mine q same later seen;
      there = z.4;
    }

-- a slot that was full and is empty: another pass emptied it
pub emptied_by : (k : Start) (slot q : ℕ) {v a w : List Event} → part_of_pass q w ≡ part_of_pass q v → WasSo k slot (FitsSight true) v a
    → WasSo k slot (FitsSight false) a w → HasReplaced slot q v w
emptied_by k slot q {v} {a} {w} same was is =
    let between = seen_further was.history a is.history was.seen is.later in
    let z : Acted slot was.history is.history = grind (arith, between, changed_by) in
    let seen = seen_further (z.0 ▷ z.1) is.history w z.3 is.seen in
    let later = seen_further v was.history z.0 was.later z.2 in record {
      history = z.0;
      event = z.1;
      later = later;
      seen = seen;
      another = not_mine q same later seen;
      there = z.4;
    }

-- Some tries at a slot: the pass watches the word that it expects; and after two of them another
-- pass was there
pub record Tried (slot expected n : ℕ) (m m' : Sat) : Type 0 where
  pub watches : 0 < n → IsWatching slot expected m'
  pub overtaken : 1 < n → WasOvertakenIn slot m m'

-- what happened between two steps of some
pub overtaken_in : (slot : ℕ) (m m₁ m₂ m₃ : Sat) → (pass_in m₁).number ≡ (pass_in m).number → m₁.0.start ≡ m.0.start → IsSeenBy (pass_in m).front (pass_in m₁).front
    → (pass_in m).watch.met ≤ (pass_in m₁).watch.met → changes_in slot (pass_in m) ≤ changes_in slot (pass_in m₁) → IsSeenBy (pass_in m₂).front (pass_in m₃).front
    → (pass_in m₂).watch.met ≤ (pass_in m₃).watch.met → changes_in slot (pass_in m₂) ≤ changes_in slot (pass_in m₃)
    → WasOvertakenIn slot m₁ m₂ → WasOvertakenIn slot m m₃
overtaken_in slot m m₁ m₂ m₃ number start before few fewer later more found was = (
  omega (arith, was.0, fewer, found),
  ⊎_elim
      (λ did. inl (acted_before (pass_in m).front before (acted_further (subst (λ (q : ℕ). HasActed slot q (pass_in m₁).front (pass_in m₂).front) number did) later)))
      (λ met. inr (omega (arith, met.0, few, more), subst (λ (k : Start). 1 < k.passes) start met.1)) was.1,
)

-- another look at the slot, after which the pass has seen that its word has changed
pub overtaken_now : {st : At} {slot expected found : ℕ} {m₁ m₂ : Sat} → Sees st m₁ found m₂ → slot_of st.word ≡ slot → found ≢ expected
    → IsWatching slot expected m₁ → WasOvertakenIn slot m₁ m₂
overtaken_now saw here lost watching = grind arith

-- one try more, that found another word
pub tried_more : {st : At} {slot expected found n : ℕ} {m m₁ m₂ : Sat} → Does m [] m.0.work n m₁ → Sees st m₁ found m₂ → slot_of st.word ≡ slot → found ≢ expected
    → Tried slot expected n m m₁ → Tried slot found (n + 1) m m₂
tried_more {slot = slot} {found = found} {m = m} {m₁ = m₁} {m₂ = m₂} still saw here lost tried = record {
  watches = λ _. subst (λ (s : ℕ). IsWatching s found m₂) here saw.watches;
  overtaken = λ l. overtaken_in slot m m₁ m₂ m₂ still.number still.start still.seen still.met (still.changes slot) ([], refl) (omega arith) (omega arith)
      (overtaken_now saw here lost (tried.watches (omega (arith, l))));
}

-- what happened between two calls of some
pub overtaken_by : (k : Start) (slot : ℕ) (p p' : LastingPass) (m₁ m₂ : Sat) → (pass_in m₁).number ≡ (view_of p).number → m₁.0.start ≡ k
    → IsSeenBy (view_of p).front (pass_in m₁).front → meetings p ≤ (pass_in m₁).watch.met → changes_at slot p ≤ changes_in slot (pass_in m₁)
    → IsSeenBy (pass_in m₂).front (view_of p').front → (pass_in m₂).watch.met ≤ meetings p' → changes_in slot (pass_in m₂) ≤ changes_at slot p'
    → WasOvertakenIn slot m₁ m₂ → WasOvertaken k slot p p'
overtaken_by k slot p p' m₁ m₂ number start before few fewer later more found was = (
  omega (arith, was.0, fewer, found),
  ⊎_elim
      (λ did. inl (acted_before (view_of p).front before (acted_further (subst (λ (q : ℕ). HasActed slot q (pass_in m₁).front (pass_in m₂).front) number did) later)))
      (λ met. inr (omega (arith, met.0, few, more), subst (λ (k : Start). 1 < k.passes) start met.1)) was.1,
)

-- a range that fell short in some steps of others
pub short_in : (k : Start) (m m₁ m₂ m₃ : Sat) → m₁.0.start ≡ m.0.start → IsSeenBy (pass_in m).front (pass_in m₁).front
    → (pass_in m).watch.met ≤ (pass_in m₁).watch.met → IsSeenBy (pass_in m₂).front (pass_in m₃).front → (pass_in m₂).watch.met ≤ (pass_in m₃).watch.met
    → FallsShort k m₁ m₂ → FallsShort k m m₃
short_in k m m₁ m₂ m₃ start before few after_them more short = ⊎_elim
    (λ had. inl (record {
      history = had.history;
      later = seen_further (pass_in m).front (pass_in m₁).front had.history before had.later;
      seen = seen_further had.history (pass_in m₂).front (pass_in m₃).front had.seen after_them;
      gap = had.gap;
    }))
    (λ met. inr (omega (arith, met.0, few, more), subst (λ (k : Start). 1 < k.passes) start met.1)) short

-- the steps are those of a call
pub fell_short : (k : Start) (p p' : LastingPass) → p.seat.me.0.start ≡ k → FallsShort k p.seat.me p'.seat.me → FellShort k p p'
fell_short k p p' begun short = ⊎_elim (λ had. inl had) (λ met. inr (met.0, subst (λ (k : Start). 1 < k.passes) begun met.1)) short

-- a file that didn't get an empty slot: the slot has another one, or was changed
pub was_lost : (k : Start) (slot : ℕ) (p p' : LastingPass) (m₁ m₂ m₃ : Sat) {xs : List Action} {w : Work} {g : Glance} {c : Change} {n : ℕ}
    → p.seat.me.0.start ≡ k → Runs p.seat.me xs w g c n m₂ → part_of_pass (view_of p).number (view_of p').front ≡ part_of_pass (view_of p).number (view_of p).front
    → changes_at slot p ≤ changes_at slot p' → IsSeenBy (pass_in m₁).front (pass_in m₂).front → IsSeenBy (pass_in m₃).front (view_of p').front
    → (pass_in m₃).watch.met ≤ meetings p' → changes_in slot (pass_in m₃) ≤ changes_at slot p'
    → WasSo k slot (FitsSight false) (view_of p).front (pass_in m₁).front → FailsToFill k m₂ m₃ slot → WasLost k slot p p'
was_lost k slot p p' m₁ m₂ m₃ begun before same all between later more found was fails = record {
  changes = all;
  overtaken = ⊎_elim (λ full. inl (filled_by k slot (view_of p).number same was between full later))
      (λ other. inr (overtaken_by k slot p p' m₂ m₃ before.number (before.start ∙ begun) before.seen before.met (before.changes slot) later more found other)) fails;
}
