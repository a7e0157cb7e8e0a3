-- A load of a slot's word: the pass sees what is at the slot, and watches the slot.
use Rattle.fx_lasting.proofs.{◌≡◌, ◌≢◌, ℕ, ◌+◌, ◌<◌, ◌≤◌, ◌⊎◌, [], sym, refl, ap, ◌∙◌, none, step, inl, inr, dite, File, Sees, Log, Sat, some, eqb}
use Rattle.fx_lasting.proofs.{List, subst, arith, Option, ⊎_elim, Closed, Names, Agrees, Watch, HasActed, keeps, Start, Shared, HasPass, Allows}
use Rattle.fx_lasting.proofs.{either, ℕ_discrete, slots_of, slot_place, state_after_all, node_of_number, IsOvertaken, changes_in, first_log}
use Rattle.fx_lasting.proofs.{get_elem?, exchanged, HoldsAlone, doing_in, full_name_in, hold_at, None, Some, ◌↔◌, grows_none, end_read, Turn, turn_of}
use Rattle.fx_lasting.proofs.{Made, by_turn, word_at, slot_word, w, After, its_log, tells, found_same, slot_back, Kind, cond, ◌∷◌, Bool, ◌==◌}
use Rattle.fx_lasting.specs.holds.Holds.{HoldsNameFiles, IsHeldBy}
use Rattle.fx_lasting.proofs.hold_lemmas.Holds.{nodes_are_of_one_file}
use Rattle.fx_lasting.proofs.Calm.{read_finding, read_finding_kept}
use Rattle.std.proofs.lemmas.Bool.{eq-eqb}
use Rattle.std.proofs.lemmas.List.Sums.{sum_by-cons}
use Rattle.fx_lasting.proofs.range_lemmas.GroupSteps.{its_inside}
use Rattle.fx_lasting.proofs.Peeking.{still}
use Rattle.fx_lasting.proofs.node_lemmas.StockMoves.{names_a_node}

module _ (turn : Turn) (s : ℕ) where
  open turn use {st, v, r, id, x, here, one}

  abbrev pub found : ℕ
  found = slot_word st.words s

  -- the pass found the word changed: another pass acted since the pass saw it, or was met in the
  -- middle of its look-up
  abbrev pub Changed : ℕ → List ℕ → Type 0
  Changed met changed = x.watch.slot ≡ s → found ≢ x.watch.word → (changes_in s x < changes_in s (record x { changed = changed }))
      × (HasActed s x.number x.watch.front r.history ⊎ ((x.watch.met < met) × (1 < v.start.passes)))

  pub record Sight : Type 0 where
    pub met : ℕ
    pub more : x.watch.met ≤ met
    pub list : List ℕ
    pub more_found : (t : ℕ) → changes_in t x ≤ changes_in t (record x { changed = list })
    pub changed : Changed met list

  -- the pass has found nothing changed
  as_before : (x.watch.slot ≡ s → found ≢ x.watch.word → ⊥) → Sight
  as_before not = record {
    met = x.watch.met;
    more = omega arith;
    list = x.changed;
    more_found = found_same x;
    changed = λ same other. absurd (not same other);
  }

  -- one change more
  found_more : (t : ℕ) → changes_in t x ≤ changes_in t (record x { changed = s ∷ x.changed })
  found_more t = let e = sum_by-cons (λ (z : ℕ). cond (z == t) 1 0) s x.changed in omega (arith, e)

  found_one : changes_in s x < changes_in s (record x { changed = s ∷ x.changed })
  found_one = let e = sum_by-cons (λ (z : ℕ). cond (z == s) 1 0) s x.changed
      ∙ ap (λ (b : Bool). cond b 1 0 + changes_in s x) (eq-eqb s s refl) in omega (arith, e)

  pub sight : s < slots_of v.start → Sight
  sight inside = dite (ℕ_discrete found x.watch.word) (λ still. as_before (λ _ other. other still))
      (λ lost. dite (ℕ_discrete x.watch.slot s)
      (λ same. ⊎_elim (λ still. as_before (λ _ other. other (sym (ap (slot_word st.words) same) ∙ still)))
      (λ changed. ⊎_elim
      (λ did. record {
        met = x.watch.met;
        more = omega arith;
        list = s ∷ x.changed;
        more_found = found_more;
        changed = λ _ _. (found_one, inl (subst (λ (i : ℕ). HasActed i x.number x.watch.front r.history) same did));
      })
      (λ hot. record {
        met = x.watch.met + 1;
        more = omega arith;
        list = s ∷ x.changed;
        more_found = found_more;
        changed = λ _ _. (found_one, inr (omega arith, hot.1));
      }) changed)
      ((its_log turn).watch.saw (subst (λ (i : ℕ). i < slots_of v.start) (sym same) inside)))
      (λ other. as_before (λ same _. other same)))

  module _ (inside : s < slots_of v.start) where
    abbrev pub seen_now : Watch
    seen_now = record { slot = s; word = found; front = r.history; asks = x.watch.asks; met = (sight inside).met }

    abbrev pub sees_after : After turn
    sees_after = read_finding turn v.work v.glance (sight inside).list (sight inside).more_found seen_now (sight inside).more r.history r.history

    pub sees_kept : Agrees v.start (end_read turn sees_after (slot_place s))
    sees_kept = read_finding_kept turn v.work v.glance (sight inside).list (sight inside).more_found seen_now (sight inside).more r.history (slot_place s) ([], refl) refl
        record { seen = ([], refl); saw = λ l. inl refl; asks = (its_log turn).watch.asks } (still turn)

    module _ (carried : List (ℕ × Option Closed)) where
      abbrev pub there : Option File
      there = (state_after_all v.start r.history).at s

      pub named : Names (node_of_number v.start) found there
      named = grind arith

      -- the word names the node of a file that the pass holds, or another file is at the slot
      module _ (f : File) (n : ℕ) (holds : HoldsAlone v.work f n) where
        held_here : IsHeldBy st f (hold_at f n)
        held_here = (id, v, here, ⊎_elim (λ is. ap doing_in is) (λ is. ap doing_in is) holds)

        its_node : HoldsNameFiles v.start st r
        its_node = nodes_are_of_one_file v.start st r

        tells_of : (o : Option File) → there ≡ o → Names (node_of_number v.start) found o → (full_name_in found ≡ n + 1) ↔ (o ≡ Some f)
        tells_of None at names = (λ is. absurd (omega (arith, is, names)), λ is. absurd (cc is))
        tells_of (Some g) at names = (
          λ is. ap Some (sym (its_node.there f g (hold_at f n) s held_here inside is at)),
          λ is. let same : g ≡ f = cc is in names.0 ∙ ap (λ (i : ℕ). i + 1)
              (ap (λ (h : File). node_of_number v.start h.number) same ∙ sym (its_node.its_number f (hold_at f n) held_here)),
        )

        current_now : (full_name_in found ≡ n + 1) ↔ (there ≡ Some f)
        current_now = tells_of there refl named

      changed_now : (first_log v.logs).watch.slot ≡ s → found ≢ (first_log v.logs).watch.word → IsOvertaken s (v, carried) (w turn sees_after, carried)
      changed_now = grind (arith, sight)

      pub sees_slot : (slots first second : ℕ) → Sees (step slots (slot_place s) first second none) (v, carried) found (w turn sees_after, carried)
      sees_slot slots first second = record {
        goes = record {
          stepped = tells turn sees_after refl carried carried [] (grows_none x.number r.history) r.life.legal refl (its_inside turn);
          carried = refl;
        };
        names = rw (slot_back s) named;
        named = names_a_node turn inside;
        watches = record { its_slot = sym (slot_back s); word = refl; front = refl };
        overtaken = λ same lost. subst (λ (i : ℕ). IsOvertaken i (v, carried) (w turn sees_after, carried)) (sym (slot_back s))
            (changed_now (same ∙ slot_back s) lost);
        current = λ f n holds. subst (λ (i : ℕ). (full_name_in found ≡ n + 1) ↔ ((state_after_all v.start r.history).at i ≡ Some f)) (sym (slot_back s))
            (current_now f n holds);
      }

      -- an exchange of another word leaves this one, and the pass sees it
      pub seen_instead : (kind : Kind) (slots first second : ℕ) → (Sees (step slots (slot_place s) first second none) (v, carried) found (w turn sees_after, carried)
          → kind (step slots (slot_place s) first second none) (v, carried) found (w turn sees_after, carried))
          → Made turn carried (slot_place s) (λ _. found) (kind (step slots (slot_place s) first second none) (v, carried))
      seen_instead kind slots first second makes = (w turn sees_after, keeps, tt, sees_kept, makes (sees_slot slots first second))

-- a law of an exchange of the slot's word for another one: the word is the one that the pass
-- expects, or the pass sees it
pub by_exchange : {k : Start} (slots : ℕ) {id i : ℕ} (s : ℕ) {m : Sat} {x : Log} (P : Start → Type 0)
    → ((st : Shared) → Agrees m.0.start st → P m.0.start → s < slots_of m.0.start) → (old new : ℕ) (kind : Kind)
    → ((seen : Sat) (found : ℕ) → found ≢ old → Sees (step slots (slot_place s) old new none) m found seen → kind (step slots (slot_place s) old new none) m found seen)
    → (has : HasPass k m x) → P k → i ≡ slot_place s
    → ((st : Shared) (r : Agrees m.0.start st) (here : get_elem? st.views id ≡ some m.0) → P m.0.start → slot_word st.words s ≡ old
    → Made (turn_of m x has.1 id st r here) m.1 (slot_place s) (λ _. new) (kind (step slots (slot_place s) old new none) m))
    → Allows (Agrees k) slots id m i (λ word. either (eqb word old) new word) (kind (step slots i old new none) m)
by_exchange slots {id} s {m} {x} P inside old new kind sees has its place wins = by_turn slots P (λ _. slot_place s)
    (λ word. either (eqb word old) new word) (λ i. kind (step slots i old new none) m) has its place
    (λ st r here is fits. exchanged (word_at st.words (slot_place s)) old new
    (λ y. Made (turn_of m x has.1 id st r here) m.1 (slot_place s) (λ _. y) (kind (step slots (slot_place s) old new none) m)) (wins st r here is)
    (λ other. seen_instead (turn_of m x has.1 id st r here) s (inside st r is) m.1 kind slots old new (λ saw. sees _ _ other saw)))
