-- When nothing is counted and nothing is owed to a node any more, nobody holds its file.
use Rattle.fx_lasting.proofs.Words.{Renewing, Relieving, Contains, contains_head, ◌≡◌, ◌≢◌, ℕ, ◌+◌, ◌<◌, ◌≤◌, List, [], ◌∷◌, sym, refl, ap, ◌∙◌, subst, arith}
use Rattle.fx_lasting.proofs.Words.{Some, File, some, get_elem?, ⊎_elim, dite, ℕ_discrete, eq-eqb, ne_eqb, sum_by, sum_two, sum_only, WorkAgrees, HoldAgrees}
use Rattle.fx_lasting.proofs.Words.{GuardAgrees, MayBeUncharged, HoldsAt, nodes_of, hold_word_of, state_after_all, held_in, held_of, taken_of, taking, if_file}
use Rattle.fx_lasting.proofs.Words.{owed, Phase, seated, leaving, file_in, Log, View, Work, Counted, Guarded, Yielding, not_there, its_range}
use Rattle.fx_lasting.proofs.Counts.{owed_at}
use Rattle.fx_lasting.proofs.Keeping.{NodeIn, node_in, Turn, word_at, slot_word}

module _ (turn : Turn) where
  open turn use {st, v, r, id, x, here, one}

  -- a node in its phase
  abbrev pub NodeNow : ℕ → Phase → Type 0
  NodeNow = NodeIn r

  pub in_phase : {n : ℕ} {ph : Phase} → n < nodes_of v.start → r.phase n ≡ ph → NodeNow n ph
  in_phase l is = node_in r l is

  -- a file of a node has its number there
  pub on_node : {n : ℕ} {f : File} → n < nodes_of v.start → file_in (r.phase n) ≡ Some f → r.node_of f.number ≡ n
  on_node l is = grind (arith, seated, leaving)

  -- files of one number are on one node
  pub one_node : {n m : ℕ} {f g : File} → HoldsAt v.start r.phase f n → HoldsAt v.start r.phase g m → g.number ≡ f.number → m ≡ n
  one_node a b same = sym (on_node b.0 b.1) ∙ (ap r.node_of same ∙ on_node a.0 a.1)

  module _ {n : ℕ} {f : File} (its : HoldsAt v.start r.phase f n) (debt' : ℕ → ℕ) (debts : (q : ℕ) → q ≢ x.number → debt' q ≡ r.debt q)
      (untaken : sum_by (taken_of n) st.views ≡ taking n v.work) (unowed : owed debt' v.start.passes n ≡ 0)
      (charged : (q : ℕ) → q ≢ x.number → (0 < q) × (q ≤ v.start.passes) → MayBeUncharged (slot_word st.words) q (r.phase n) → ⊥) where
    module _ (j : ℕ) (u : View) (other : j ≢ id) (there : get_elem? st.views j ≡ some u) where
      -- a pass of the seat has no debt to the node
      owes_not : (z : Log) → Contains u.logs z → r.debt z.number ≡ n + 1 → ⊥
      owes_not z at is = let ne = not_there r.life here one other there z at in let range = its_range r.life j there at in
          let a = owed_at debt' v.start.passes z.number n range.0 range.1 (debts z.number ne ∙ is) in omega arith

      -- nor a hold of its file
      by_log : (d : Work) → (z : Log) → Contains u.logs z → u.work ≡ d
          → WorkAgrees v.start r.phase j d → HoldAgrees (word_at st.words (hold_word_of v.start z.number)) (r.debt z.number) d
          → GuardAgrees (slot_word st.words) r.phase z.number (r.debt z.number) d → if_file f.number (held_in d) ≡ 0
      by_log (Counted g m) z at is w h gd = dite (ℕ_discrete g.number f.number)
          (λ same. let e = one_node its w same in absurd (
          let a = sum_two (taken_of n) st.views j id u v other there here in
          let b : taken_of n u ≡ 1 = ap (taking n) is ∙ rw (eq-eqb m n e) refl in omega arith))
          (λ ne. rw (ne_eqb g.number f.number ne) refl)
      by_log (Renewing g m own l) z at is w h gd = dite (ℕ_discrete g.number f.number)
          (λ same. let e = one_node its w.0 same in absurd (
          let a = sum_two (taken_of n) st.views j id u v other there here in
          let b : taken_of n u ≡ 1 = ap (taking n) is ∙ rw (eq-eqb m n e) refl in omega arith))
          (λ ne. rw (ne_eqb g.number f.number ne) refl)
      by_log (Guarded g m) z at is w h gd = dite (ℕ_discrete g.number f.number)
          (λ same. let e = one_node its w same in absurd (⊎_elim
          (λ (clean : (word_at st.words (hold_word_of v.start z.number) ≡ m + 1) × (r.debt z.number ≡ 0)).
          charged z.number (not_there r.life here one other there z at) (its_range r.life j there at) (rw e at (gd clean.1)))
          (λ (full : (word_at st.words (hold_word_of v.start z.number) ≡ m + 1 + 4294967296) × (r.debt z.number ≡ m + 1)).
          owes_not z at (full.1 ∙ ap (λ (i : ℕ). i + 1) e)) h))
          (λ ne. rw (ne_eqb g.number f.number ne) refl)
      by_log (Relieving g m own l) z at is w h gd = dite (ℕ_discrete g.number f.number)
          (λ same. let e = one_node its w.0 same in absurd (⊎_elim
          (λ (clean : (word_at st.words (hold_word_of v.start z.number) ≡ m + 1) × (r.debt z.number ≡ 0)).
          charged z.number (not_there r.life here one other there z at) (its_range r.life j there at) (rw e at (gd clean.1)))
          (λ (full : (word_at st.words (hold_word_of v.start z.number) ≡ m + 1 + 4294967296) × (r.debt z.number ≡ m + 1)).
          owes_not z at (full.1 ∙ ap (λ (i : ℕ). i + 1) e)) h))
          (λ ne. rw (ne_eqb g.number f.number ne) refl)
      by_log (Yielding g m) z at is w h gd = dite (ℕ_discrete g.number f.number)
          (λ same. let e = one_node its w same in absurd (owes_not z at (h.1 ∙ ap (λ (i : ℕ). i + 1) e)))
          (λ ne. rw (ne_eqb g.number f.number ne) refl)
      by_log _ z at is w h gd = refl

      pub held_not : held_of f.number u ≡ 0
      held_not = go u.logs refl
        where
          go : (l : List Log) → u.logs ≡ l → held_of f.number u ≡ 0
          go [] none = ap (λ (d : Work). if_file f.number (held_in d)) ((r.life.seats j u there).empty none).0
          go (z ∷ l) is = let at = subst (λ (l : List Log). Contains l z) (sym is) (contains_head z l) in
              let o = (r.holds.views j u there).logs z at in
              by_log u.work z at refl (r.holds.views j u there).work o.hold o.guarded

    -- so the pass holds it alone, or nobody does
    pub held_alone : (state_after_all v.start r.history).holds f.number ≡ held_of f.number v
    held_alone = r.holds.files f.number ∙ sum_only (held_of f.number) st.views id v here (λ j u other there. held_not j u other there)
