-- A step of a pass that retires a file: its round moves on, and the file's node stays with it.
use Rattle.fx_lasting.proofs.{false, Round, ◌≡◌, ◌≢◌, ℕ, ◌+◌, ◌^◌, ◌<◌, ◌≤◌, List, [], sym, refl, ap, ◌∙◌, subst, arith, Option, Closed, File}
use Rattle.fx_lasting.proofs.{WorkAgrees, HoldAgrees, GuardAgrees, StillNames, nodes_of, word_of, hold_word_of, held_in, if_file, taken_of, taking}
use Rattle.fx_lasting.proofs.{owed, Phase, leaving, owner, file_in, removed_in, changed_at, changed_here, Work, Retiring, inr, Goes, sum_set, true}
use Rattle.fx_lasting.proofs.{Bool, Agrees, Labels, label_of, written_in, grows_none, each_changed, busy, does_now, Turn, After, word_at, slot_word}
use Rattle.fx_lasting.proofs.{its_log, its_work, tells, w, end, LabelSame, labels_same, LeavesElse, NodeNow, in_phase}
use Rattle.fx_lasting.proofs.node_lemmas.NodeSteps.{after, node_kept, own_keeps}

module _ (turn : Turn) (f : File) (n t : ℕ) (nx : Round) (m : ℕ) (works : turn.v.work ≡ Retiring f n t nx m) where
  open turn use {st, v, r, id, x, here, one}

  pub its : (n < nodes_of v.start) × (r.phase n ≡ leaving id t nx m f)
  its = subst (WorkAgrees v.start r.phase id) works (its_work turn)

  pub node : NodeNow turn n (leaving id t nx m f)
  node = in_phase turn its.0 its.1

  pub retiring_same : {g : File} {i a : ℕ} {b : Round} {c : ℕ} → v.work ≡ Retiring g i a b c → Retiring f n t nx m ≡ Retiring g i a b c
  retiring_same its' = sym works ∙ its'

  -- the round is at nx' now, with m' charges
  module _ (words' : List ℕ) (debt' : ℕ → ℕ) (nx' : Round) (m' : ℕ) where
    abbrev ph : Phase
    ph = leaving id t nx' m' f

    abbrev pub round_after : After turn
    round_after = after turn n its.0 ph r.history words' st.homes debt' (Retiring f n t nx' m') v.glance

    -- the new round isn't one of a pass that holds the file by its hold word
    pub record RoundStep : Type 0 where
      pub leaves_else : LeavesElse turn n words'
      pub same_word : word_at words' (word_of v.start n) ≡ word_at st.words (word_of v.start n)
      pub same_label : LabelSame v.start words' st.words n
      pub own : (word_at words' (hold_word_of v.start x.number) ≡ 0) × (debt' x.number ≡ 0)
      pub owed_else : (k : ℕ) → k ≢ n → owed debt' v.start.passes k ≡ owed r.debt v.start.passes k
      pub owed_more : owed debt' v.start.passes n + m ≡ owed r.debt v.start.passes n + m'
      pub few_charges : m' < nx'.next
      pub few_visits : nx'.next ≤ 2 ^ 16
      pub still_down : nx'.guarded ≡ false
      pub guards : (p : ℕ) (e : Work) → p ≢ x.number → (0 < p) × (p ≤ v.start.passes)
          → HoldAgrees (word_at st.words (hold_word_of v.start p)) (r.debt p) e → GuardAgrees (slot_word st.words) r.phase p (r.debt p) e
          → HoldAgrees (word_at words' (hold_word_of v.start p)) (debt' p) e × GuardAgrees (slot_word words') (changed_at r.phase n ph) p (debt' p) e

    pub round_kept : RoundStep → Agrees v.start (end turn round_after)
    round_kept s = let up : nx'.guarded ≡ true → ⊥ = λ bad. let z : false ≡ true = sym s.still_down ∙ bad in cc z in
        node_kept turn n its.0 ph r.history words' st.homes debt' (Retiring f n t nx' m') v.glance record {
          leaves_else = s.leaves_else;
          homes = refl;
          grows = grows_none x.number r.history;
          legal = r.life.legal;
          at = refl;
          fresh = refl;
          removed = λ k. r.nodes.removed k ∙ sym (each_changed (λ i z. removed_in k z ≡ removed_in k (r.phase i)) r.phase
              (λ is. sym (ap (λ (i : ℕ). removed_in k (r.phase i)) is ∙ ap (removed_in k) its.1)) (λ _. refl));
          label = labels_same v.start _ _ _ (label_of f.identity) s.same_label
              (subst (λ (z : Phase). Labels v.start st.words n (written_in z)) its.1 (r.nodes.labels n its.0));
          home_else = λ k l other. refl;
          owed_else = s.owed_else;
          taken_else = λ k other. sym (ap (taking k) works);
          free_else = λ k other bad. let a = ap busy works in other (omega arith);
          may = inr (inr (ap owner its.1));
          its_stock = λ is. cc (sym its.1 ∙ is);
          at_slot = λ i h is. cc (sym its.1 ∙ is);
          open_file = λ j u h other there holds is. sym (ap file_in its.1) ∙ is;
          guards = s.guards;
          node = let a = node.counts in let b = s.owed_more in let c = s.same_word in
              let k = sum_set (taken_of n) st.views id v (w turn round_after) here in let e = ap (taking n) works in record {
                file = node.file;
                counts = omega arith;
                few_takes = node.few_takes;
                few_charges = s.few_charges;
                few_visits = s.few_visits;
                unowed = λ bad. absurd (up bad);
              };
          known = does_now st.views id v (w turn round_after) (Retiring f n t nx' m') here refl;
          held = (its_log turn).held ∙ ap held_in works;
          allowed = λ bad. absurd (up bad);
          its_own = own_keeps turn n its.0 ph r.history words' st.homes debt' (Retiring f n t nx' m') v.glance s.leaves_else.slots refl
              (subst (λ (b : Bool). StillNames b (word_at words' (hold_word_of v.start x.number)) (debt' x.number) n) (sym s.still_down) (s.own.0, s.own.1))
              tt (its.0, changed_here r.phase n ph n refl);
          holds = λ k. let a = ap (λ (d : Work). if_file k (held_in d)) works in omega arith;
        }

    pub goes : (carried : List (ℕ × Option Closed)) → Goes (v, carried) [] (Retiring f n t nx' m') v.glance (w turn round_after, carried)
    goes carried = record { stepped = tells turn round_after refl carried carried [] (grows_none x.number r.history) r.life.legal refl its.0; carried = refl }

  -- a step that leaves all words
  pub reads : (nx' : Round) → (word_at st.words (hold_word_of v.start x.number) ≡ 0) × (r.debt x.number ≡ 0) → m < nx'.next → nx'.next ≤ 2 ^ 16
      → nx'.guarded ≡ false
      → ((p : ℕ) (e : Work) → p ≢ x.number → (0 < p) × (p ≤ v.start.passes) → HoldAgrees (word_at st.words (hold_word_of v.start p)) (r.debt p) e
      → GuardAgrees (slot_word st.words) r.phase p (r.debt p) e
      → GuardAgrees (slot_word st.words) (changed_at r.phase n (leaving id t nx' m f)) p (r.debt p) e)
      → RoundStep st.words r.debt nx' m
  reads nx' own few_charges few_visits down guards = grind arith
