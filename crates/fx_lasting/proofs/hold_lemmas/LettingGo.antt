-- A pass lets a file go: it subtracts a take or a charge from the word of the file's node, or it
-- retires the file.
use Rattle.fx_lasting.proofs.{◌≡◌, ◌≢◌, ℕ, ◌+◌, ◌-◌, ◌%◌, ◌^◌, ◌<◌, ◌≤◌, List, ◌∷◌, ◌++◌, map, set, sym, refl, ap, ◌∙◌, arith, Option, Some, None}
use Rattle.fx_lasting.proofs.{none, some, set_here, set_else, Closed, ◌▷◌, File, Event, Close, Action, pass_event, held_by, part_of_pass, NodeAgrees}
use Rattle.fx_lasting.proofs.{OwnerAgrees, MayBeUncharged, HoldsAt, state_after_all, slots_of, hold_word_of, held_of, taken_of, taking, if_file, owed}
use Rattle.fx_lasting.proofs.{count_in, IsHistory, Phase, free, seated, emptied, owner, file_in, removed_in, file_if_numbered}
use Rattle.fx_lasting.proofs.{changed_here, changed_else, View, Work, Idle, Emptying, Goes, TakesOut, length-set, inr, ◌⊎◌, dite, ℕ_discrete, eq-eqb}
use Rattle.fx_lasting.proofs.{ne_eqb, sum_by, by_equality, sum_set, Agrees, get_elem?, Labels, written_in, subst, Grows, grows_more, legal_more}
use Rattle.fx_lasting.proofs.{part_mine, held_mine, each_changed, busy, does_now, written_of, Turn, After, Homes, word_at, slot_word, in_range, tells}
use Rattle.fx_lasting.proofs.{w, end, labels_same, LeavesFiles, node_words, node_here, node_slot, node_hold, node_label, node_leaves, held_alone}
use Rattle.fx_lasting.proofs.{held_not, on_node}
use Rattle.fx_lasting.proofs.node_lemmas.NodeSteps.{own_keeps, guards_else, after, node_kept}

pub taking_few : (n : ℕ) (d : Work) → taking n d ≤ 1
taking_few n d = grind (arith, by_equality)

pub sub_wraps : {n k : ℕ} → k ≤ n → n < 18446744073709551616 → 0 < k → (n + (2 ^ 64 - k)) % 2 ^ 64 ≡ n - k
sub_wraps le fits more = omega arith

-- The pass has the file of the node to drop, and does nothing else: by these actions it holds
-- nothing any more.
module _ (turn : Turn) (n : ℕ) (f : File) (h₁ : List Event) (debt' : ℕ → ℕ) (xs : List Action) where
  open turn use {st, v, r, id, x, here, one}

  pub record IsLetGo : Type 0 where
    pub its : HoldsAt v.start r.phase f n
    pub files : LeavesFiles turn h₁
    pub own : part_of_pass x.number h₁ ≡ map (pass_event x) xs ++ part_of_pass x.number r.history
    pub holds : (m : ℕ) → (state_after_all v.start h₁).holds m + held_of m v ≡ (state_after_all v.start r.history).holds m
    pub held : held_by h₁ x.number ≡ None
    -- other nodes are owed what they were, and the pass counts for none of them
    pub owed_else : (m : ℕ) → m ≢ n → owed debt' v.start.passes m ≡ owed r.debt v.start.passes m
    pub taken_else : (m : ℕ) → m ≢ n → taking m v.work ≡ 0
    pub debts : (q : ℕ) → q ≢ x.number → debt' q ≡ r.debt q
    pub no_debt : debt' x.number ≡ 0
    pub hold : word_at st.words (hold_word_of v.start x.number) ≡ 0
    pub apart : (m : ℕ) → m ≢ n → busy v.work ≢ m + 1

-- the word of the node becomes this
module _ {turn : Turn} {n : ℕ} {f : File} {h₁ : List Event} {debt' : ℕ → ℕ} {xs : List Action} (g : IsLetGo turn n f h₁ debt' xs)
    (carried : List (ℕ × Option Closed)) (less : ℕ) where
  open turn use {st, v, r, id, x, here, one}

  abbrev pub words₁ : List ℕ
  words₁ = node_words turn n g.its.0 less

  abbrev total : ℕ
  total = sum_by (taken_of n) st.views

  abbrev pub same_slots : (s : ℕ) → s < slots_of v.start → slot_word words₁ s ≡ slot_word st.words s
  same_slots = node_slot turn n g.its.0 less

  no_hold : word_at words₁ (hold_word_of v.start x.number) ≡ 0
  no_hold = node_hold turn n g.its.0 less x.number (in_range turn).1 ∙ g.hold

  -- what is counted now, whatever the pass does that holds nothing
  pub taken_now : (w' : View) → taken_of n w' ≡ 0 → sum_by (taken_of n) (set st.views id w') + taking n v.work ≡ total
  taken_now w' unheld = let t = sum_set (taken_of n) st.views id v w' here in omega arith

  on_this : r.node_of f.number ≡ n
  on_this = on_node turn g.its.0 g.its.1

  not_free : (ph : Phase) → r.phase n ≡ ph → file_in ph ≡ None → ⊥
  not_free ph is empty = let e : None ≡ Some f = sym empty ∙ (sym (ap file_in is) ∙ g.its.1) in cc e

  -- The file stays open: the node is in this phase
  module _ (ph : Phase) where
    abbrev pub open_after : After turn
    open_after = after turn n g.its.0 ph h₁ words₁ st.homes debt' Idle v.glance

    pub stays_open : file_in ph ≡ Some f → ((m : ℕ) → removed_in m ph ≡ removed_in m (r.phase n))
        → (ph ≡ r.phase n) ⊎ ((owner (r.phase n) ≡ 0) ⊎ (owner (r.phase n) ≡ id + 1))
        → ((s : ℕ) (h : File) → r.phase n ≡ seated s h → ph ≡ seated s h)
        → ((p : ℕ) → p ≢ x.number → (0 < p) × (p ≤ v.start.passes) → MayBeUncharged (slot_word st.words) p (r.phase n)
        → MayBeUncharged (slot_word words₁) p ph)
        → NodeAgrees (state_after_all v.start r.history).at (slots_of v.start) (λ s. count_in (slot_word st.words s)) r.node_of r.nodes.next_number n
        less (sum_by (taken_of n) (set st.views id (w turn open_after))) (owed debt' v.start.passes n) (get_elem? st.homes n) ph
        → OwnerAgrees (set st.views id (w turn open_after)) n ph → Agrees v.start (end turn open_after)
    stays_open filed removes may seats covers node known = node_kept turn n g.its.0 ph h₁ words₁ st.homes debt' Idle v.glance record {
      leaves_else = node_leaves turn n g.its.0 less;
      homes = refl;
      grows = g.files.grows;
      legal = g.files.legal;
      at = g.files.at;
      fresh = g.files.fresh;
      removed = λ m. ap (λ (z : ℕ → Option File). z m) g.files.removed ∙ (r.nodes.removed m ∙ sym (each_changed
          (λ k z. removed_in m z ≡ removed_in m (r.phase k)) r.phase (λ is. removes m ∙ ap (λ (k : ℕ). removed_in m (r.phase k)) (sym is)) (λ _. refl)));
      label = labels_same v.start _ _ _ (written_in ph) (node_label turn n g.its.0 less n) (subst (Labels v.start st.words n)
          (written_of (r.phase n) g.its.1 ∙ sym (written_of ph filed)) (r.nodes.labels n g.its.0));
      home_else = λ m l other. refl;
      owed_else = g.owed_else;
      taken_else = λ m other. sym (g.taken_else m other);
      free_else = g.apart;
      may = may;
      its_stock = λ is. absurd (not_free free is refl);
      at_slot = seats;
      open_file = λ j u h other there holds is. filed ∙ (sym g.its.1 ∙ is);
      guards = λ p e other range. guards_else turn n g.its.0 ph h₁ words₁ st.homes debt' Idle v.glance same_slots p e
          (node_hold turn n g.its.0 less p range.1) (g.debts p other) (covers p other range);
      node = rw (node_here turn n g.its.0 less) node;
      known = known;
      held = g.held;
      allowed = tt;
      its_own = own_keeps turn n g.its.0 ph h₁ words₁ st.homes debt' Idle v.glance same_slots refl (no_hold, g.no_debt) tt tt;
      holds = λ m. let a = g.holds m in omega arith;
    }

    pub goes_open : Goes (v, carried) xs Idle v.glance (w turn open_after, carried)
    goes_open = record { stepped = tells turn open_after refl carried carried xs g.files.grows g.files.legal g.own tt; carried = refl }

  -- The file is closed, and comes out
  abbrev pub h₂ : List Event
  h₂ = pass_event x (Close f) ∷ h₁

  abbrev pub homes₂ : Homes
  homes₂ = set st.homes n none

  abbrev pub out_after : After turn
  out_after = after turn n g.its.0 (emptied id) h₂ words₁ homes₂ debt' (Emptying n) v.glance

  -- the file was removed
  pub record IsGone : Type 0 where
    pub gone : (m : ℕ) → removed_in m (r.phase n) ≡ file_if_numbered m f
    pub not_seated : (s : ℕ) (h : File) → r.phase n ≢ seated s h
    pub may : (owner (r.phase n) ≡ 0) ⊎ (owner (r.phase n) ≡ id + 1)
    pub charged : (q : ℕ) → q ≢ x.number → (0 < q) × (q ≤ v.start.passes) → MayBeUncharged (slot_word st.words) q (r.phase n) → ⊥
    pub home : get_elem? st.homes n ≡ some (some (Some f.identity))
    pub left : 0 < less
    pub none_taken : total ≡ taking n v.work
    pub none_owed : owed debt' v.start.passes n ≡ 0

  module _ (o : IsGone) where
    unheld : (state_after_all v.start h₁).holds f.number ≡ 0
    unheld = grind (arith, held_alone)

    legal₂ : IsHistory v.start h₂
    legal₂ = legal_more v.start g.files.legal (grind (arith, on_this), unheld) tt

    grows₂ : Grows x.number r.history h₂
    grows₂ = grows_more refl g.files.grows

    pub comes_out : Agrees v.start (end turn out_after)
    comes_out = node_kept turn n g.its.0 (emptied id) h₂ words₁ homes₂ debt' (Emptying n) v.glance record {
      leaves_else = node_leaves turn n g.its.0 less;
      homes = length-set st.homes n none;
      grows = grows₂;
      legal = legal₂;
      at = g.files.at;
      fresh = g.files.fresh;
      removed = λ m. let old = (state_after_all v.start h₁).removed in dite (ℕ_discrete m f.number)
          (λ same. changed_here old f.number None m same ∙ sym (ap (removed_in m)
          (changed_here r.phase n (emptied id) (r.node_of m) (ap r.node_of same ∙ on_this))))
          (λ other. changed_else old f.number None m other ∙ (ap (λ (z : ℕ → Option File). z m) g.files.removed ∙ (r.nodes.removed m
          ∙ sym (each_changed (λ k z. removed_in m z ≡ removed_in m (r.phase k)) r.phase
          (λ is. sym (ap (λ (k : ℕ). removed_in m (r.phase k)) is ∙ (o.gone m ∙ rw (ne_eqb f.number m (λ e. other (sym e))) refl)))
          (λ _. refl)))));
      label = tt;
      home_else = λ m l other. set_else st.homes n m none other;
      owed_else = g.owed_else;
      taken_else = λ m other. sym (g.taken_else m other);
      free_else = g.apart;
      may = inr o.may;
      its_stock = λ is. absurd (not_free free is refl);
      at_slot = λ s h is. absurd (o.not_seated s h is);
      open_file = λ j u h other there holds is. absurd (let e : h ≡ f = cc (sym is ∙ g.its.1) in
          let a = held_not turn g.its debt' g.debts o.none_taken o.none_owed o.charged j u other there in
          let b : held_of f.number u ≡ 1 = ap (if_file f.number) holds ∙ rw (eq-eqb h.number f.number (ap (λ (z : File). z.number) e)) refl in
          omega arith);
      guards = λ p e other range. guards_else turn n g.its.0 (emptied id) h₂ words₁ homes₂ debt' (Emptying n) v.glance same_slots p e
          (node_hold turn n g.its.0 less p range.1) (g.debts p other) (λ may. absurd (o.charged p other range may));
      node = grind (arith, node_here, set_here, none, taken_now);
      known = does_now st.views id v (w turn out_after) (Emptying n) here refl;
      held = held_mine (pass_event x (Close f)) h₁ refl ∙ g.held;
      allowed = tt;
      its_own = own_keeps turn n g.its.0 (emptied id) h₂ words₁ homes₂ debt' (Emptying n) v.glance same_slots refl (no_hold, g.no_debt) tt
          (g.its.0, changed_here r.phase n (emptied id) n refl);
      holds = λ m. let a = g.holds m in omega arith;
    }

    pub takes_out : TakesOut (v, carried) xs f n (w turn out_after, (n, Some f.identity) ∷ carried)
    takes_out = record {
      stepped = tells turn out_after refl carried ((n, Some f.identity) ∷ carried) (xs ▷ Close f) grows₂ legal₂
          (part_mine h₁ refl ∙ ap (λ (l : List Event). pass_event x (Close f) ∷ l) g.own) g.its.0;
      carried = refl;
    }
