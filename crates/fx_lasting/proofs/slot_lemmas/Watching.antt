-- The words that a pass watches, after a step of its own or of another pass.
use Rattle.fx_lasting.proofs.Words.{◌≡◌, ◌≢◌, ℕ, ◌<◌, ◌≤◌, ◌⊎◌, List, [], sym, refl, ◌∙◌, subst, arith, get_or, Event, IsSeenBy, ⊎_elim, inl, inr, true}
use Rattle.fx_lasting.proofs.Words.{heat_in, slot_place, question_place, slots_of, Start, Watch, ActsAt, IsAsSeen, WatchAgrees, HasQuestionOf, seen_further}
use Rattle.fx_lasting.proofs.Words.{MOST_SLOTS, without_slot, ◌▷◌, Bool, Action, AnotherDid}

-- the pass of this number acted at the slot between two histories
abbrev pub ActsThere : (number slot : ℕ) → List Event → List Event → Type 0
ActsThere number slot h h' = (mid : List Event) × (e : Event) × IsSeenBy h mid × IsSeenBy (mid ▷ e) h' × (e.pass ≡ number) × ActsAt slot e.action

-- the slot's word stays; or the pass of this number acted there; or it heated the slot
abbrev pub MovesOn : (number slot : ℕ) → (h h' : List Event) → (old new : ℕ) → Type 0
MovesOn number slot h h' old new = (new ≡ old)
    ⊎ (ActsThere number slot h h' ⊎ (heat_in old < heat_in new))

-- who has acted, has acted
pub acted_further : {Does : Action → Type 0} {number : ℕ} {a b c : List Event} → AnotherDid Does number a b → IsSeenBy b c → AnotherDid Does number a c
acted_further {b = b} {c = c} did more = record {
  history = did.history;
  event = did.event;
  later = did.later;
  seen = seen_further (did.history ▷ did.event) b c did.seen more;
  another = did.another;
  there = did.there;
}

pub acted_before : {Does : Action → Type 0} {number : ℕ} (a : List Event) {b c : List Event} → IsSeenBy a b → AnotherDid Does number b c → AnotherDid Does number a c
acted_before a {b} more did = record {
  history = did.history;
  event = did.event;
  later = seen_further a b did.history more did.later;
  seen = did.seen;
  another = did.another;
  there = did.there;
}

-- A step of the pass `number`, and what the pass q watches
module _ (k : Start) (number q : ℕ) (other : number ≢ q) (two : 1 < k.passes) {h h' : List Event} (words words' : List ℕ)
    (grows : (front : List Event) → IsSeenBy front h → IsSeenBy front h')
    (moves : (s : ℕ) → s < slots_of k → MovesOn number s h h' (get_or words (slot_place s) 0) (get_or words' (slot_place s) 0)) where
  goes_on : (o : Watch) → o.slot < slots_of k → IsSeenBy o.front h → IsAsSeen k h q o (get_or words (slot_place o.slot) 0)
      → IsAsSeen k h' q o (get_or words' (slot_place o.slot) 0)
  goes_on o l seen so = ⊎_elim
      (λ same. ⊎_elim (λ still. inl (same ∙ still))
      (λ changed. ⊎_elim (λ gone. inr (inl (acted_further gone (grows h ([], refl)))))
      (λ hot. inr (inr (subst (λ (z : ℕ). heat_in o.word < heat_in z) (sym same) hot.0, two))) changed) so)
      (λ new. ⊎_elim
      (λ did. inr (inl (record {
        history = did.0;
        event = did.1;
        later = seen_further o.front h did.0 seen did.2;
        seen = did.3;
        another = λ mine. other (sym did.4 ∙ mine);
        there = did.5;
      })))
      (λ hotter. ⊎_elim (λ still. inr (inr (subst (λ (z : ℕ). heat_in z < heat_in (get_or words' (slot_place o.slot) 0)) still hotter, two)))
      (λ changed. ⊎_elim (λ gone. inr (inl (acted_further gone (grows h ([], refl)))))
      (λ hot. inr (inr (omega (arith, hot.0, hotter), two))) changed) so) new)
      (moves o.slot l)

  pub watch_on : (o : Watch) → WatchAgrees k h words q o → WatchAgrees k h' words' q o
  watch_on o a = grind (arith, goes_on)

-- A step after which the words that the pass watches are as they were
pub watch_same : (k : Start) (q : ℕ) {h h' : List Event} {words words' : List ℕ} → IsSeenBy h h'
    → ((s : ℕ) → s < slots_of k → get_or words' (slot_place s) 0 ≡ get_or words (slot_place s) 0)
    → get_or words' question_place 0 ≡ get_or words question_place 0 → (o : Watch) → WatchAgrees k h words q o → WatchAgrees k h' words' q o
watch_same k q {h} {h'} {words} {words'} more slots question o a = record {
  seen = seen_further o.front h h' a.seen more;
  saw = λ l. subst (λ (z : ℕ). IsAsSeen k h' q o z) (sym (slots o.slot l)) (⊎_elim (λ same. inl same)
      (λ changed. inr (⊎_elim (λ gone. inl (acted_further gone more)) (λ hot. inr hot) changed)) (a.saw l));
  asks = λ is. subst (λ (z : ℕ). HasQuestionOf z q ⊎ (1 < k.passes)) (sym question) (a.asks is);
}

-- A step of the pass on a slot's word: it watches no slot then
pub watch_none : (k : Start) (q : ℕ) {h h' : List Event} {words words' : List ℕ} → slots_of k ≤ MOST_SLOTS → IsSeenBy h h'
    → get_or words' question_place 0 ≡ get_or words question_place 0 → (o : Watch) → WatchAgrees k h words q o
    → WatchAgrees k h' words' q (without_slot MOST_SLOTS o)
watch_none k q {h} {h'} few more question o a = record {
  seen = seen_further o.front h h' a.seen more;
  saw = λ l. absurd (omega (arith, few, l));
  asks = λ is. subst (λ (z : ℕ). HasQuestionOf z q ⊎ (1 < k.passes)) (sym question) (a.asks is);
}

-- A step of the pass on the question word
pub watch_asks : (k : Start) (q : ℕ) {h h' : List Event} {words words' : List ℕ} → IsSeenBy h h'
    → ((s : ℕ) → s < slots_of k → get_or words' (slot_place s) 0 ≡ get_or words (slot_place s) 0) → (o : Watch) (b : Bool) (n : ℕ)
    → (b ≡ true → HasQuestionOf (get_or words' question_place 0) q ⊎ (1 < k.passes)) → WatchAgrees k h words q o
    → WatchAgrees k h' words' q (record o { asks = b; met = n })
watch_asks k q {h} {h'} {words} {words'} more slots o b n asks a = record {
  seen = seen_further o.front h h' a.seen more;
  saw = λ l. subst (λ (z : ℕ). IsAsSeen k h' q o z) (sym (slots o.slot l)) (⊎_elim (λ same. inl same)
      (λ changed. inr (⊎_elim (λ gone. inl (acted_further gone more)) (λ hot. inr hot) changed)) (a.saw l));
  asks = asks;
}
