-- A swap of a slot's word: a file leaves the slot, if there was one, and the slot gets another or
-- none.
use Rattle.fx_lasting.proofs.{Round, refl, subst, arith, Some, None, Bool, false, Event, State, Names, Nodes, IsHot, Phase, owner, Found, Change}
use Rattle.fx_lasting.proofs.{Labels, StillNames, Whereabouts, List, OwnerAgrees, GuardAgrees, RangeCounts, hold_word_of, full_name_in, first_visit}
use Rattle.fx_lasting.proofs.{without_slot, removal_work, true, NamesItsNode, with_removed, changed_here, changed_else, MayBeUncharged}
use Rattle.fx_lasting.proofs.{state_after_all, range_at_start, alone_in, IsToVisit, new_round, get_elem?, IsAllowed, IsHistory, untouched, length-set}
use Rattle.fx_lasting.proofs.{Placement, written_in, MOST_SLOTS, inl, ℕ_discrete, changed_at, NodeAgrees, WorkAgrees, SlotAgrees, HoldAgrees}
use Rattle.fx_lasting.proofs.{slot_place, cold_takes, has_heated, removed_in, IsInside, held_by, IsSeated, slots_of, nodes_of, word_of, count_in}
use Rattle.fx_lasting.proofs.{heat_in, taken_of, held_in, held_of, Retiring, label_of, ◌≡◌, ◌≢◌, ℕ, suc, ◌+◌, ◌-◌, ◌^◌, ◌<◌, ◌≤◌, [], set, sym, ap}
use Rattle.fx_lasting.proofs.{◌∙◌, inr, ◌⊎◌, dite, File, Deed, owed, free, Work, Idle, length, Option, ⊎_elim, dec_le, eq-eqb, ne_eqb, Agrees, taking}
use Rattle.fx_lasting.proofs.{if_file, sum_by, sum_set, placed, seated, leaving, file_in, tally_same, tally_none, Grows, each_changed, busy, does_now}
use Rattle.fx_lasting.proofs.{slot_same, file_same, Leaves, keeps_other, guards_same, SlotGoesOn, sees_on, heats_on, Turn, After, as_it_was, Homes}
use Rattle.fx_lasting.proofs.{word_at, slot_word, sees_all, list_untouched, step_kept, w, end, its_log, in_range, labels_same, slot_words, slot_here}
use Rattle.fx_lasting.proofs.{slot_node, slot_else, slot_by, slot_hold, slot_list, slot_label, slot_alike, ActsThere, MovesOn, watch_none, in_phase}
use Rattle.fx_lasting.proofs.node_lemmas.StockMoves.{StaysNamed}

-- the node isn't that of the file
abbrev pub NotOf : Nodes → ℕ → Option File → Type 0
NotOf node_of n old = (f : File) → old ≡ Some f → n ≢ node_of f.number

by_old : (node_of : Nodes) (old : Option File) {n : ℕ} (P : Type 0) → ((f : File) → old ≡ Some f → n ≡ node_of f.number → P) → (NotOf node_of n old → P) → P
by_old node_of None P is else = else (λ f bad. absurd (cc bad))
by_old node_of (Some f) {n} P is else = dite (ℕ_discrete n (node_of f.number)) (λ same. is f refl same)
    (λ other. else (λ g e same. other (let z : f ≡ g = cc e in same ∙ ap (λ (h : File). node_of h.number) (sym z))))

module _ (turn : Turn) (s : ℕ) (inside : s < slots_of turn.v.start) where
  open turn use {st, v, r, id, x, here, one}

  abbrev pub found : ℕ
  found = slot_word st.words s

  abbrev pub state : State
  state = state_after_all v.start r.history

  -- a word that names the same file, and is as hot
  abbrev pub IsAlike : ℕ → Type 0
  IsAlike word = (full_name_in word ≡ full_name_in found) × (heat_in word ≡ heat_in found)

  -- a round that a removal may begin: it visits each pass that may guard the file
  pub record Begins (round : Round) : Type 0 where
    pub some_next : 0 < round.next
    pub few_next : round.next ≤ 2 ^ 16
    pub visits : (q : ℕ) → 0 < q → IsHot found → IsToVisit round q
    pub listed : round.guarded ≡ true → x.listed ≡ true

  -- a removal by a pass that doesn't guard the file
  pub begins_first : (counted : ℕ) → IsAlike counted → Begins (new_round (first_visit v.start.passes counted))
  begins_first counted alike = grind arith

  -- what the events of a step do, which removes this file and installs another one or none. The
  -- removal has the takes of the word `counted`, and is to make this round. The pass worked alone
  -- with the node `busy_with`, less 1, and holds nothing any more
  pub record Ends (old : Option File) (counted : ℕ) (round : Round) (busy_with : ℕ) (h' : List Event) (new : Option File) (fresh : ℕ → Bool) : Type 0 where
    pub grows : Grows x.number r.history h'
    pub legal : IsHistory v.start h'
    -- the pass acted at the slot
    pub acted : ActsThere x.number s r.history h'
    pub holds : ℕ → ℕ
    pub leads : state_after_all v.start h'
        ≡ record state { at = changed_at state.at s new; removed = with_removed state.removed old; fresh = fresh; holds = holds }
    pub held : held_by h' x.number ≡ None
    pub let_go : (n : ℕ) → holds n + held_of n v ≡ state.holds n
    -- the removal doesn't count the take by which the pass held the file, if it held one
    pub taken : (f : File) → old ≡ Some f → count_in counted + taking (r.node_of f.number) v.work ≡ count_in found
    pub untaken : (n : ℕ) → NotOf r.node_of n old → taking n v.work ≡ 0
    pub works : busy v.work ≡ busy_with
    pub begins : Begins round
    pub hold_none : old ≡ None → (word_at st.words (hold_word_of v.start x.number) ≡ 0) × (r.debt x.number ≡ 0)
    pub hold : (f : File) → old ≡ Some f
        → StillNames round.guarded (word_at st.words (hold_word_of v.start x.number)) (r.debt x.number) (r.node_of f.number)

  module _ (old : Option File) (was : state.at s ≡ old) where
    pub names_old : Names r.node_of found old
    names_old = subst (Names r.node_of found) was (r.slots s inside).names

    -- the file that was there
    pub old_at : {f : File} → old ≡ Some f → (r.node_of f.number < nodes_of v.start) × (r.phase (r.node_of f.number) ≡ seated s f)
    old_at is = subst (IsSeated v.start r.node_of r.phase s) is (subst (IsSeated v.start r.node_of r.phase s) was (r.slots s inside).seat)

    pub old_named : {f : File} → old ≡ Some f → full_name_in found - 1 ≡ r.node_of f.number
    old_named {f} is = let n = subst (Names r.node_of found) is names_old in let a = n.0 in omega arith

    pub found_so : Found found old
    found_so = grind (arith, names_old)

    -- a node whose phase isn't that of a file at the slot isn't that of the old file
    pub not_old : {n : ℕ} {ph : Phase} → r.phase n ≡ ph → ((f : File) → ph ≢ seated s f) → NotOf r.node_of n old
    not_old is else f o same = else f (sym is ∙ (ap r.phase same ∙ (old_at o).1))

  -- The removal has this word from the slot: the one that was there, or that one without the take
  -- of the pass itself; and it is to make this round
  module _ (old : Option File) (was : state.at s ≡ old) (counted : ℕ) (alike : IsAlike counted) (round : Round) where
    abbrev pub d : Work
    d = removal_work round counted old

    d_is : (f : File) → old ≡ Some f → d ≡ Retiring f (r.node_of f.number) (count_in counted) round 0
    d_is f is = grind (arith, old_named)

    -- what a pass does that has a file to retire, or none
    by_retiring : (P : Work → Type 0) → (old ≡ None → P Idle)
        → ((f : File) → old ≡ Some f → P (Retiring f (r.node_of f.number) (count_in counted) round 0)) → P d
    by_retiring P idle retires = grind (arith, d_is)

    -- it is about the table's nodes, and takes from none
    pub d_inside : IsInside v.start d
    d_inside = by_retiring (IsInside v.start) (λ none. tt) (λ f is. (old_at old was is).0)

    pub d_untaken : (n : ℕ) → taking n d ≡ 0
    d_untaken n = by_retiring (λ q. taking n q ≡ 0) (λ none. refl) (λ f is. refl)

    -- the old file's node, after the swap
    abbrev gone_as : File → Phase
    gone_as f = leaving id (count_in counted) round 0 f

    module _ (h' : List Event) (new_word : ℕ) (new : Option File) (homes' : Homes) (phase₁ : ℕ → Phase) (next' : ℕ) (c : Change)
        (where_is' : ℕ → Whereabouts) (stock' : List ℕ) where
      abbrev deed' : ℕ → ℕ → Deed
      deed' = changed_at r.deed s (λ p. untouched)

      -- phases are changed by the old file, if there was one
      abbrev gone : Option File → (ℕ → Phase) → ℕ → Phase
      gone None phase = phase
      gone (Some f) phase = changed_at phase (r.node_of f.number) (gone_as f)

      abbrev phase' : ℕ → Phase
      phase' = gone old phase₁

      abbrev pub swap_after : After turn
      swap_after = record (as_it_was turn) {
        h = h';
        front = h';
        words = slot_words turn s inside new_word;
        homes = homes';
        phase = phase';
        next_number = next';
        deed = deed';
        work = d;
        change = c;
        where_is = where_is';
        stock = stock';
        watch = without_slot MOST_SLOTS x.watch;
      }

      abbrev after : State
      after = state_after_all v.start h'

      abbrev Node : ℕ → Phase → Type 0
      Node n = NodeAgrees after.at (slots_of v.start) (λ i. count_in (slot_word (slot_words turn s inside new_word) i)) r.node_of next' n
          (word_at st.words (word_of v.start n)) (sum_by (taken_of n) (set st.views id (w turn swap_after))) (owed r.debt v.start.passes n)
          (get_elem? homes' n)

      pub record Swap : Type 0 where
        pub busy_with : ℕ
        pub fresh : ℕ → Bool
        pub ends : Ends old counted round busy_with h' new fresh
        pub fresh_on : (number : ℕ) → next' ≤ number → fresh number ≡ true
        pub homes : length homes' ≡ length st.homes
        pub later : r.nodes.next_number ≤ next'
        pub removed_else : (m : ℕ) → removed_in m (phase₁ (r.node_of m)) ≡ removed_in m (r.phase (r.node_of m))
        -- the nodes that slots name, and those of stocks
        pub stays : StaysNamed turn s new_word where_is' stock'
        -- the new file of the slot
        pub names : Names r.node_of new_word new
        pub few_takes : count_in new_word ≤ cold_takes v.start.passes
        pub no_heat : heat_in new_word ≡ 0
        pub seat : IsSeated v.start r.node_of phase₁ s new
        pub seat_apart : (f : File) → new ≡ Some f → NotOf r.node_of (r.node_of f.number) old
        -- the phases change at most where the pass was placing
        pub kept : (n : ℕ) → (phase₁ n ≡ r.phase n) ⊎ ((l : Placement) × (r.phase n ≡ placed id l))
        pub nodes : (n : ℕ) → n < nodes_of v.start → NotOf r.node_of n old → Node n (phase₁ n)
        pub old_home : (f : File) → old ≡ Some f → get_elem? homes' (r.node_of f.number) ≡ get_elem? st.homes (r.node_of f.number)
        pub owners : (n : ℕ) → n < nodes_of v.start → NotOf r.node_of n old → OwnerAgrees (set st.views id (w turn swap_after)) n (phase₁ n)
        pub labels : (n : ℕ) → n < nodes_of v.start → NotOf r.node_of n old → Labels v.start st.words n (written_in (phase₁ n))
        pub counts : RangeCounts (changed_at state.at s new) (range_at_start v.start) (set st.views id (w turn swap_after)) (slot_words turn s inside new_word)

      module _ (p : Swap) where
        out_here : {f : File} → old ≡ Some f → phase' (r.node_of f.number) ≡ gone_as f
        out_here is = grind (arith, changed_here)

        else_phase : {n : ℕ} → NotOf r.node_of n old → phase' n ≡ phase₁ n
        else_phase {n} apart = go old refl
          where
            go : (o : Option File) → old ≡ o → gone o phase₁ n ≡ phase₁ n
            go None is = refl
            go (Some f) is = changed_else phase₁ (r.node_of f.number) (gone_as f) n (apart f is)

        -- a node that is neither the old file's nor placed
        same_phase : {n : ℕ} {ph : Phase} → r.phase n ≡ ph → NotOf r.node_of n old → ((l : Placement) → ph ≢ placed id l) → phase' n ≡ ph
        same_phase {n} is apart other = else_phase apart ∙ ⊎_elim (λ same. same ∙ is) (λ mine. absurd (other mine.0 (sym is ∙ mine.1))) (p.kept n)

        at_here : after.at s ≡ new
        at_here = ap (λ (z : State). z.at s) p.ends.leads ∙ changed_here state.at s new s refl

        -- the old file's node
        old_node : {f : File} → old ≡ Some f → Node (r.node_of f.number) (gone_as f)
        old_node {f} is = let its = old_at old was is in let o = in_phase turn its.0 its.1 in let a = o.counts in let b = o.unowed in
            let t = sum_set (taken_of (r.node_of f.number)) st.views id v (w turn swap_after) here in
            let e = p.ends.taken f is in
            let z = d_untaken (r.node_of f.number) in
            record {
              file = file_same p.later (p.old_home f is) o.file;
              counts = omega arith;
              few_takes = omega arith;
              few_charges = p.ends.begins.some_next;
              few_visits = p.ends.begins.few_next;
              unowed = λ up. b;
            }

        -- its label is still that of the file
        old_label : {f : File} → old ≡ Some f → Labels v.start (slot_words turn s inside new_word) (r.node_of f.number) (label_of f.identity)
        old_label {f} is = let its = old_at old was is in labels_same v.start _ _ _ (label_of f.identity) (slot_label turn s inside new_word (r.node_of f.number))
            (subst (λ (ph : Phase). Labels v.start st.words (r.node_of f.number) (written_in ph)) its.1 (r.nodes.labels (r.node_of f.number) its.0))

        covers : (q : ℕ) → (0 < q) × (q ≤ v.start.passes) → (n : ℕ) → MayBeUncharged (slot_word st.words) q (r.phase n)
            → MayBeUncharged (slot_word (slot_words turn s inside new_word)) q (phase' n)
        covers q range n may = by_old r.node_of old {n = n} (MayBeUncharged (slot_word (slot_words turn s inside new_word)) q (phase' n))
            (λ f is same. let hot = subst (MayBeUncharged (slot_word st.words) q) (ap r.phase same ∙ (old_at old was is).1) may in
            subst (MayBeUncharged (slot_word (slot_words turn s inside new_word)) q) (sym (ap phase' same ∙ out_here is))
            (p.ends.begins.visits q range.0 hot))
            (λ apart. go apart (r.phase n) refl may)
          where
            -- a seated file is elsewhere, if it isn't the old one
            at_slot : NotOf r.node_of n old → (i : ℕ) (f : File) → r.phase n ≡ seated i f → i ≢ s
            at_slot apart i f is same = dite (dec_le (suc n) (nodes_of v.start))
                (λ l. let o = in_phase turn (omega (arith, l)) is in
                apart f (sym was ∙ (ap state.at (sym same) ∙ o.there)) (sym o.file.its_node))
                (λ g. let e = r.nodes.unborn n (omega (arith, g)) in let bad : free ≡ seated i f = sym e ∙ is in cc bad)

            go : NotOf r.node_of n old → (ph : Phase) → r.phase n ≡ ph → MayBeUncharged (slot_word st.words) q ph
                → MayBeUncharged (slot_word (slot_words turn s inside new_word)) q (phase' n)
            go apart (seated i f) is hot = subst (MayBeUncharged (slot_word (slot_words turn s inside new_word)) q)
                (sym (same_phase is apart (λ l bad. cc bad))) (rw (slot_else turn s inside new_word i (λ same. at_slot apart i f is same)) hot)
            go apart (leaving j t nx m f) is l = subst (MayBeUncharged (slot_word (slot_words turn s inside new_word)) q)
                (sym (same_phase is apart (λ l bad. cc bad))) l
            go apart _ is m = absurd m

        slots_on : (q i : ℕ) → SlotGoesOn (slot_word st.words i) (slot_word (slot_words turn s inside new_word) i) (r.deed i q) (deed' i q)
        slots_on q i = dite (ℕ_discrete i s)
            (λ same. inl (ap (λ (f : ℕ → Deed). f q) (changed_here r.deed s (λ p. untouched) i same)))
            (λ other. inr (
              ap (λ (f : ℕ → Deed). f q) (changed_else r.deed s (λ p. untouched) i other),
              ap full_name_in (slot_else turn s inside new_word i other),
              λ h. rw (slot_else turn s inside new_word i other) h,
            ))

        leaves : Leaves turn swap_after
        leaves = record {
          guards = λ q e other range. guards_same turn swap_after q e (slot_hold turn s inside new_word q range.0) refl (covers q range);
          owned = λ n some not_mine. same_phase refl (not_old old was refl (λ f bad. some (ap owner bad))) (λ l bad. not_mine (ap owner bad));
          spare = λ n q e is at other. same_phase is (not_old old was is (λ f bad. cc bad)) (λ l bad. cc bad);
          open_file = λ j u f n other there holds at. (
            at.0,
            by_old r.node_of old {n = n} (file_in (phase' n) ≡ Some f)
                (λ g is same. ap file_in (ap phase' same ∙ out_here is) ∙ (sym (ap file_in (ap r.phase same ∙ (old_at old was is).1)) ∙ at.1))
                (λ apart. ap file_in (same_phase refl apart (λ l bad. let z : None ≡ Some f = sym (ap file_in bad) ∙ at.1 in cc z)) ∙ at.1),
          );
          slots = λ i q l other. slots_on q i;
        }

        -- what was removed
        removed_now : (m : ℕ) → after.removed m ≡ removed_in m (phase' (r.node_of m))
        removed_now m = ap (λ (z : State). z.removed m) p.ends.leads ∙ go old refl
          where
            go : (o : Option File) → old ≡ o → with_removed state.removed o m ≡ removed_in m (gone o phase₁ (r.node_of m))
            go None is = r.nodes.removed m ∙ sym (p.removed_else m)
            go (Some f) is = dite (ℕ_discrete m f.number)
                (λ same. changed_here state.removed f.number (Some f) m same ∙ sym (ap (removed_in m) (changed_here phase₁ (r.node_of f.number) (gone_as f) (r.node_of m)
                (ap r.node_of same)) ∙ rw (eq-eqb f.number m (sym same)) refl))
                (λ other. changed_else state.removed f.number (Some f) m other ∙ (r.nodes.removed m ∙ (sym (p.removed_else m)
                ∙ sym (each_changed (λ k z. removed_in m z ≡ removed_in m (phase₁ k)) phase₁
                (λ at. rw (ne_eqb f.number m (λ e. other (sym e))) (sym (ap (λ (k : ℕ). removed_in m (phase₁ k)) at
                ∙ ap (removed_in m) (⊎_elim (λ e. e ∙ (old_at old was is).1) (λ bad. let z : placed id bad.0 ≡ seated s f = sym bad.1 ∙ (old_at old was is).1 in absurd (cc z))
                (p.kept (r.node_of f.number)))))) (λ _. refl)))))

        seat_now : (o : Option File) → new ≡ o → IsSeated v.start r.node_of phase₁ s o → IsSeated v.start r.node_of phase' s o
        seat_now None is z = tt
        seat_now (Some f) is z = (z.0, else_phase (p.seat_apart f is) ∙ z.1)

        slot_other : (i : ℕ) → i < slots_of v.start → i ≢ s
            → SlotAgrees v.start r.node_of phase' (deed' i) i (after.at i) (slot_word (slot_words turn s inside new_word) i)
        slot_other i l other = slot_same (slot_else turn s inside new_word i other)
            (ap (λ (z : State). z.at i) p.ends.leads ∙ changed_else state.at s new i other)
            (λ q low high. ap (λ (f : ℕ → Deed). f q) (changed_else r.deed s (λ p. untouched) i other))
            (λ f there seat. let its = subst (IsSeated v.start r.node_of r.phase i) there (r.slots i l).seat in
            same_phase its.1 (not_old old was its.1 (λ g bad. other (cc bad))) (λ l bad. cc bad) ∙ sym its.1)
            (r.slots i l)

        pub swap_kept : Agrees v.start (end turn swap_after)
        swap_kept = let o = its_log turn in step_kept turn swap_after record {
          words = length-set st.words (slot_place s) new_word;
          homes = p.homes;
          life = sees_all turn p.ends.grows p.ends.legal;
          nodes = record {
            each = λ n l. rw (slot_node turn s inside new_word n) (by_old r.node_of old {n = n} (Node n (phase' n))
                (λ f is same. rw (same, out_here is) (old_node is)) (λ apart. rw (else_phase apart) (p.nodes n l apart)));
            owners = λ n l. by_old r.node_of old {n = n} (OwnerAgrees (set st.views id (w turn swap_after)) n (phase' n))
                (λ f is same. rw (same, out_here is) (does_now st.views id v (w turn swap_after)
                (Retiring f (r.node_of f.number) (count_in counted) round 0) here (ap alone_in (d_is f is))))
                (λ apart. rw (else_phase apart) (p.owners n l apart));
            labels = λ n l. by_old r.node_of old {n = n} (Labels v.start (slot_words turn s inside new_word) n (written_in (phase' n)))
                (λ f is same. rw (same, out_here is) (old_label is))
                (λ apart. rw (else_phase apart) (labels_same v.start _ _ _ (written_in (phase₁ n)) (slot_label turn s inside new_word n) (p.labels n l apart)));
            removed = removed_now;
            unborn = λ n l. same_phase (r.nodes.unborn n l) (not_old old was (r.nodes.unborn n l) (λ f bad. cc bad)) (λ z bad. cc bad);
            fresh = λ number l. ap (λ (z : State). z.fresh number) p.ends.leads ∙ p.fresh_on number l;
          };
          stocks = record {
            named = slot_by turn s inside new_word (λ i word. i < slots_of v.start → NamesItsNode v.start where_is' i word) (λ _. p.stays.slot) (λ i other l.
                let o = r.nodes.named i l in record { node = o.node; named = o.named; inside = o.inside; here = p.stays.other_slots i o.node other o.here });
            stock = p.stays.stock;
            others = p.stays.other_stocks;
          };
          slots = record {
            each = λ i l. dite (ℕ_discrete i s) (λ same. rw (same, slot_here turn s inside new_word, at_here) record {
              names = p.names;
              seat = seat_now new refl p.seat;
              takes = let a = p.few_takes in omega arith;
              heat = p.no_heat ∙ sym (tally_same (λ q. has_heated (deed' s q)) (λ q. false) v.start.passes
                  (λ q low high. ap (λ (f : ℕ → Deed). has_heated (f q)) (changed_here r.deed s (λ p. untouched) s refl)) ∙ tally_none v.start.passes);
            }) (λ other. slot_other i l other);
            moves = λ i l. slot_by turn s inside new_word (λ i word. MovesOn x.number i r.history h' (slot_word st.words i) word)
                (inr (inl p.ends.acted)) (λ i other. inl refl) i;
          };
          holds = record {
            others = λ j u z other there at n range o work. keeps_other turn swap_after leaves j u z other there at n range o work;
            its = record {
              hold = rw (slot_hold turn s inside new_word x.number (in_range turn).0)
                  (by_retiring (HoldAgrees (word_at st.words (hold_word_of v.start x.number)) (r.debt x.number)) p.ends.hold_none p.ends.hold);
              guarded = by_retiring (GuardAgrees (slot_word (slot_words turn s inside new_word)) phase' x.number (r.debt x.number)) (λ none. tt) (λ f is. tt);
              sees = sees_on v.start (slot_word st.words) (slot_word (slot_words turn s inside new_word)) (λ i. r.deed i x.number) (λ i. deed' i x.number)
                  (λ i l. slots_on x.number i) v.glance o.sees;
              heats = heats_on v.start (slot_word st.words) (slot_word (slot_words turn s inside new_word)) (λ i. r.deed i x.number) (λ i. deed' i x.number)
                  (λ i l. slots_on x.number i) v.glance o.heats;
              work = by_retiring (WorkAgrees v.start phase' id) (λ none. tt) (λ f is. ((old_at old was is).0, out_here is));
            };
            held = p.ends.held ∙ by_retiring (λ q. None ≡ held_in q) (λ none. refl) (λ f is. refl);
            allowed = by_retiring (IsAllowed stock' x.listed) (λ none. tt) (λ f is. p.ends.begins.listed);
            files = λ n. let a = p.ends.let_go n in let b = by_retiring (λ q. if_file n (held_in q) ≡ 0) (λ none. refl) (λ f is. refl) in
                let g = ap (λ (z : State). z.holds n) p.ends.leads in omega arith;
          };
          list = list_untouched turn swap_after (slot_list turn s inside new_word)
              (λ i q is. ⊎_elim (λ new. absurd (is new)) (λ same e. is (same.0 ∙ e)) (slots_on q i)) (λ l. l);
          range = rw p.ends.leads p.counts;
          watch = watch_none v.start x.number r.shape.slots (p.ends.grows.seen r.history ([], refl)) (slot_alike turn s inside new_word).0 x.watch o.watch;
        }
