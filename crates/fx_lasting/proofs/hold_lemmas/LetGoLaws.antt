-- A pass that subtracts a charge or a take from the word of a node keeps the rule.
use Rattle.fx_lasting.proofs.{◌≡◌, ◌≢◌, ℕ, ◌+◌, ◌-◌, ◌%◌, ◌^◌, ◌<◌, ◌≤◌, List, [], ◌∷◌, set, sym, refl, ap, ◌∙◌, subst, arith, Option, Some, none}
use Rattle.fx_lasting.proofs.{some, keeps, takes, Closed, ◌▷◌, File, Event, Release, Action, pass_event, NodeAgrees, OwnerAgrees, MayBeUncharged}
use Rattle.fx_lasting.proofs.{HoldsAt, WorkAgrees, state_after_all, slots_of, nodes_of, word_of, hold_word_of, held_in, taken_of, taking, owed}
use Rattle.fx_lasting.proofs.{count_in, Phase, seated, leaving, retired, owner, file_in, removed_in, changed_at, changed_here, changed_else, Idle}
use Rattle.fx_lasting.proofs.{Counted, Owing, Yielding, Goes, TakesOut, Sat, LettingGo, LettingGoKeeps, step, inl, inr, ⊎_elim, ◌⊎◌, dite, ℕ_discrete}
use Rattle.fx_lasting.proofs.{eqb, one_if, sum_by, sum_at, one_less_at, get_elem?, bit_here, bit_else, Agrees, owed_changed, owed_at, grows_one}
use Rattle.fx_lasting.proofs.{legal_more, part_mine, held_mine, busy, owner_stays, covers_same, none_added, Turn, turn_of, word_at, slot_word, Made}
use Rattle.fx_lasting.proofs.{by_turn, its_log, its_work, in_range, w, end, NodeNow, in_phase}
use Rattle.fx_lasting.proofs.hold_lemmas.LettingGo.{IsLetGo, words₁, same_slots, open_after, stays_open, goes_open, out_after, IsGone, comes_out, takes_out}
use Rattle.fx_lasting.proofs.hold_lemmas.LettingGo.{sub_wraps, taking_few, taken_now}

-- The counts of the node become one less.
module _ {turn : Turn} {n : ℕ} {f : File} {h₁ : List Event} {debt' : ℕ → ℕ} {xs : List Action} (g : IsLetGo turn n f h₁ debt' xs)
    (fewer : owed debt' turn.v.start.passes n + 1 ≡ owed turn.r.debt turn.v.start.passes n + taking n turn.v.work)
    (carried : List (ℕ × Option Closed)) (fits : word_at turn.st.words (word_of turn.v.start n) < 18446744073709551616) where
  open turn use {st, v, r, id, x, here, one}

  abbrev found : ℕ
  found = word_at st.words (word_of v.start n)

  abbrev less : ℕ
  less = (found + (2 ^ 64 - 1)) % 2 ^ 64

  -- the outcome of the step: the file stays open, or it is closed and comes out
  abbrev Outcome : Type 0
  Outcome = ((found ≢ 2) × (ph : Phase) × Agrees v.start (end turn (open_after g carried less ph))
      × Goes (v, carried) xs Idle v.glance (w turn (open_after g carried less ph), carried))
      ⊎ ((found ≡ 2) × (get_elem? st.homes n ≡ some (some (Some f.identity))) × Agrees v.start (end turn (out_after g carried less))
      × TakesOut (v, carried) xs f n (w turn (out_after g carried less), (n, Some f.identity) ∷ carried))

  -- the phase stays what it was
  stays : (ph : Phase) → r.phase n ≡ ph → found ≢ 2 → busy v.work ≡ 0
      → NodeAgrees (state_after_all v.start r.history).at (slots_of v.start) (λ s. count_in (slot_word st.words s)) r.node_of r.nodes.next_number n
      less (sum_by (taken_of n) (set st.views id (w turn (open_after g carried less ph)))) (owed debt' v.start.passes n) (get_elem? st.homes n) ph
      → Outcome
  stays ph is more calm node = inl (
    more,
    ph,
    stays_open g carried less ph (sym (ap file_in is) ∙ g.its.1) (λ m. ap (removed_in m) (sym is))
        (inl (sym is)) (λ s h e. sym is ∙ e)
        (λ p other range may. subst (MayBeUncharged (slot_word (words₁ g carried less)) p) is (covers_same turn (words₁ g carried less) (same_slots g carried less) p n may))
        node (owner_stays st.views id v (w turn (open_after g carried less ph)) here n (λ bad. omega arith) ph
        (subst (OwnerAgrees st.views n) is (r.nodes.owners n g.its.0))),
    goes_open g carried less ph,
  )

  pub outcome : busy v.work ≡ 0 → (ph : Phase) → r.phase n ≡ ph → file_in ph ≡ Some f → Outcome
  outcome calm (seated s h) is has = let o = in_phase turn g.its.0 is in let a = o.counts in let b = o.unowed in let c = taking_few n v.work in
      let t = sum_at (taken_of n) st.views id v here in
      let e : less ≡ found - 1 = sub_wraps (omega arith) fits (omega arith) in
      let now = taken_now g carried less (w turn (open_after g carried less (seated s h))) refl in
      stays (seated s h) is (λ last. omega arith) calm record {
        file = o.file;
        counts = omega arith;
        few = let z = o.few in omega arith;
        unowed = omega arith;
        inside = o.inside;
        there = o.there;
      }
  outcome calm (leaving j t nx m h) is has = let o = in_phase turn g.its.0 is in let a = o.counts in let b = o.few_takes in
      let d = o.few_charges in let k = o.few_visits in let c = taking_few n v.work in let q = sum_at (taken_of n) st.views id v here in
      let e : less ≡ found - 1 = sub_wraps (omega arith) fits (omega arith) in
      let now = taken_now g carried less (w turn (open_after g carried less (leaving j t nx m h))) refl in
      stays (leaving j t nx m h) is (λ last. omega arith) calm record {
        file = o.file;
        counts = omega arith;
        few_takes = o.few_takes;
        few_charges = o.few_charges;
        few_visits = o.few_visits;
        unowed = λ is. let z = o.unowed is in omega arith;
      }
  outcome calm (retired h) is has = let o = in_phase turn g.its.0 is in let a = o.counts in let b = o.somebody in let c = taking_few n v.work in
      let q = sum_at (taken_of n) st.views id v here in
      let e : less ≡ found - 1 = sub_wraps (omega arith) fits (omega arith) in
      let now = taken_now g carried less (w turn (open_after g carried less (retired h))) refl in
      let same : h ≡ f = cc has in
      dite (ℕ_discrete found 2)
      (λ last. let gone : IsGone g carried less = record {
        gone = λ m. ap (removed_in m) is ∙ ap (λ (z : File). removed_in m (retired z)) same;
        not_seated = λ s z bad. cc (sym is ∙ bad);
        may = inl (ap owner is);
        charged = λ p other range may. subst (MayBeUncharged (slot_word st.words) p) is may;
        home = rw same at o.file.at_home;
        left = omega arith;
        none_taken = omega arith;
        none_owed = omega arith;
      } in inr (last, rw same at o.file.at_home, comes_out g carried less gone, takes_out g carried less gone))
      (λ more. stays (retired h) is more calm record { file = o.file; counts = omega arith; somebody = omega arith })
  outcome calm _ is has = absurd (cc has)

-- the passes that have still to drop a file
module _ (turn : Turn) (n : ℕ) where
  open turn use {st, v, r, id, x, here, one}

  -- a node to which a charge is owed has a file
  owed_file : n < nodes_of v.start → 1 ≤ owed r.debt v.start.passes n → (f : File) × HoldsAt v.start r.phase f n
  owed_file l some_owed = go (r.phase n) refl (r.nodes.each n l)
    where
      go : (ph : Phase) → r.phase n ≡ ph → NodeNow turn n ph → (f : File) × HoldsAt v.start r.phase f n
      go (leaving j t nx m f) is o = (f, (l, ap file_in is))
      go (retired f) is o = (f, (l, ap file_in is))
      go _ is o = let a = o.unowed in absurd (omega arith)

  -- the debt of the pass is paid
  abbrev paid : ℕ → ℕ
  paid = changed_at r.debt x.number 0

  paid_for : r.debt x.number ≡ n + 1 → (m : ℕ) → owed paid v.start.passes m + one_if (eqb (n + 1) (m + 1)) ≡ owed r.debt v.start.passes m
  paid_for is m = let a = owed_changed r.debt v.start.passes x.number 0 (in_range turn).0 (in_range turn).1 m in
      let b = ap (λ (d : ℕ). one_if (eqb d (m + 1))) is in let c : one_if (eqb 0 (m + 1)) ≡ 0 = bit_else (m + 1) 0 (λ e. omega arith) in omega arith

  -- a charge that was owed for nothing
  charge_lets : v.work ≡ Owing n → {f : File} → HoldsAt v.start r.phase f n → r.debt x.number ≡ n + 1
      → word_at st.words (hold_word_of v.start x.number) ≡ 0 → IsLetGo turn n f r.history paid []
  charge_lets is its owes empty = grind (arith, none_added, its_log, paid_for, bit_else, taking, changed_else, changed_here)

  -- a file that the pass holds
  module _ (f : File) (holds : held_in v.work ≡ Some f) (its : HoldsAt v.start r.phase f n) where
    abbrev h₁ : List Event
    h₁ = pass_event x (Release f) ∷ r.history

    hold_lets : (debt' : ℕ → ℕ) → busy v.work ≡ 0 → ((m : ℕ) → m ≢ n → owed debt' v.start.passes m ≡ owed r.debt v.start.passes m)
        → ((m : ℕ) → m ≢ n → taking m v.work ≡ 0) → ((q : ℕ) → q ≢ x.number → debt' q ≡ r.debt q) → debt' x.number ≡ 0
        → word_at st.words (hold_word_of v.start x.number) ≡ 0 → IsLetGo turn n f h₁ debt' ([] ▷ Release f)
    hold_lets debt' calm owed_else taken_else debts no_debt empty =
        grind (arith, grows_one, legal_more, bit_here, sum_at, its_log, part_mine, one_less_at, held_mine)

module _ (turn : Turn) (slots n : ℕ) (carried : List (ℕ × Option Closed))
    (fits : word_at turn.st.words (word_of turn.v.start n) < 18446744073709551616) where
  open turn use {st, v, r, id, x, here, one}

  abbrev Told : ℕ → Sat → Type 0
  Told = LettingGo (step slots (word_of v.start n) 1 0 none) (v, carried)

  abbrev Goal : Type 0
  Goal = Made turn carried (word_of v.start n) (λ word. (word + (2 ^ 64 - 1)) % 2 ^ 64) Told

  abbrev word : ℕ
  word = word_at st.words (word_of v.start n)

  by_outcome : {f : File} {h₁ : List Event} {debt' : ℕ → ℕ} {xs : List Action} (g : IsLetGo turn n f h₁ debt' xs)
      (fewer : owed debt' v.start.passes n + 1 ≡ owed r.debt v.start.passes n + taking n v.work) → busy v.work ≡ 0
      → ((m : Sat) → (word ≢ 2 → Goes (v, carried) xs Idle v.glance m) × (word ≡ 2 → TakesOut (v, carried) xs f n m) → Told word m) → Goal
  by_outcome {f} {h₁} {debt'} {xs} g fewer calm tells = ⊎_elim
      (λ z. (
        w turn (open_after g carried (less g fewer carried fits) z.1),
        keeps,
        tt,
        z.2,
        tells (w turn (open_after g carried (less g fewer carried fits) z.1), carried) (λ _. z.3, λ last. absurd (z.0 last)),
      ))
      (λ z. (
        w turn (out_after g carried (less g fewer carried fits)),
        takes n (Some f.identity),
        z.1,
        z.2,
        tells (w turn (out_after g carried (less g fewer carried fits)), (n, Some f.identity) ∷ carried) (λ more. absurd (more z.0), λ _. z.3),
      ))
      (outcome g fewer carried fits calm (r.phase n) refl g.its.1)

  owing : v.work ≡ Owing n → Goal
  owing is = let o = rw is at (its_log turn).hold in let l = subst (WorkAgrees v.start r.phase id) is (its_work turn) in
      let range = in_range turn in let file = owed_file turn n l (owed_at r.debt v.start.passes x.number n range.0 range.1 o.1) in
      by_outcome (charge_lets turn n is file.1 o.1 o.0)
      (let a = paid_for turn n o.1 n in let b = bit_here (n + 1) (n + 1) refl in let c = ap (taking n) is in omega arith) (ap busy is)
      (λ m goes. record {
        owed = λ i is'. let same : n ≡ i = cc (sym is ∙ is') in rw (← same) (goes.0, λ last. (file.0, goes.1 last));
        yielded = λ f i is'. absurd (cc (sym is ∙ is'));
        counted = λ f i is'. absurd (cc (sym is ∙ is'));
      })

  yielding : (f : File) → v.work ≡ Yielding f n → Goal
  yielding f is = let o = rw is at (its_log turn).hold in let its = subst (WorkAgrees v.start r.phase id) is (its_work turn) in
      by_outcome (hold_lets turn n f (ap held_in is) its (paid turn n) (ap busy is)
      (λ m other. let a = paid_for turn n o.1 m in let b = bit_else (m + 1) (n + 1) (λ e. other (omega arith)) in omega arith)
      (λ m other. ap (taking m) is) (λ q other. changed_else r.debt x.number 0 q other) (changed_here r.debt x.number 0 x.number refl) o.0)
      (let a = paid_for turn n o.1 n in let b = bit_here (n + 1) (n + 1) refl in let c = ap (taking n) is in omega arith) (ap busy is)
      (λ m goes. record {
        owed = λ i is'. absurd (cc (sym is ∙ is'));
        yielded = λ h i is'. let same : f ≡ h = cc (sym is ∙ is') in let at : n ≡ i = cc (sym is ∙ is') in rw (← same, ← at) goes;
        counted = λ h i is'. absurd (cc (sym is ∙ is'));
      })

  counted : (f : File) → v.work ≡ Counted f n → Goal
  counted f is = let o = rw is at (its_log turn).hold in let its = subst (WorkAgrees v.start r.phase id) is (its_work turn) in
      by_outcome (hold_lets turn n f (ap held_in is) its r.debt (ap busy is) (λ m other. refl)
      (λ m other. ap (taking m) is ∙ bit_else m n (λ e. other (sym e))) (λ q other. refl) o.1 o.0)
      (let c = ap (taking n) is in let d = bit_here n n refl in omega arith) (ap busy is)
      (λ m goes. record {
        owed = λ i is'. absurd (cc (sym is ∙ is'));
        yielded = λ h i is'. absurd (cc (sym is ∙ is'));
        counted = λ h i is'. let same : f ≡ h = cc (sym is ∙ is') in let at : n ≡ i = cc (sym is ∙ is') in rw (← same, ← at) goes;
      })

pub letting_go_keeps : LettingGoKeeps LettingGo
letting_go_keeps k slots id i n m x has works place = by_turn slots (λ _. Unit {0}) (λ k. word_of k n)
    (λ word. (word + (2 ^ 64 - 1)) % 2 ^ 64) (λ i. LettingGo (step slots i 1 0 none) m) has tt place
    (λ st r here _ fits. let turn = turn_of m x has.1 id st r here in ⊎_elim (λ is. owing turn slots n m.1 fits is)
    (λ z. ⊎_elim (λ y. yielding turn slots n m.1 fits y.0 y.1) (λ y. counted turn slots n m.1 fits y.0 y.1) z) works)
