-- A step on one node, at which no slot changes: on its word and place, or on the hold word of a
-- pass that names it.
use Rattle.fx_lasting.proofs.{◌≡◌, ◌≢◌, ℕ, ◌+◌, ◌<◌, ◌≤◌, List, [], set, length, sym, refl, ap, ◌∙◌, subst, arith, Option, Some, Bool, some}
use Rattle.fx_lasting.proofs.{get_elem?, held_by, changed_at, File, Event, NodeAgrees, OwnerAgrees, WorkAgrees, IsAllowed, Agrees, slots_of, nodes_of}
use Rattle.fx_lasting.proofs.{IsHistory, state_after_all, held_in, held_of, taken_of, taking, owed, Phase, free, seated, owner, file_in, removed_in}
use Rattle.fx_lasting.proofs.{View, Work, ⊎_elim, ◌⊎◌, inr, word_of, hold_word_of, count_in, name_in, full_name_in, IsInStock, in_stock, sum_by}
use Rattle.fx_lasting.proofs.{sum_set, HoldAgrees, GuardAgrees, MayBeUncharged, Glance, inl, IsSeenBy, part_of_pass, Labels, written_in, None}
use Rattle.fx_lasting.proofs.{if_file, Grows, grows_none, each_changed, busy, owner_stays, slot_same, node_same, Leaves, keeps_other, sees_same}
use Rattle.fx_lasting.proofs.{covers_same, guards_same, Turn, After, as_it_was, Keeps, Homes, word_at, slot_word, step_kept, w, end, its_log}
use Rattle.fx_lasting.proofs.{in_range, in_its_stock, node_in, stocks_untouched, list_untouched, range_left, labels_same, LeavesElse, watch_same}

module _ (turn : Turn) (q : ℕ) (its : q < nodes_of turn.v.start) (ph : Phase) (h' front : List Event) (words' : List ℕ) (homes' : Homes)
    (debt' : ℕ → ℕ) (d : Work) (g : Glance) where
  open turn use {st, v, r, id, x, here, one}

  abbrev pub after_seen : After turn
  after_seen = record (as_it_was turn) {
    h = h';
    front = front;
    words = words';
    homes = homes';
    phase = changed_at r.phase q ph;
    debt = debt';
    work = d;
    glance = g;
  }

  abbrev before : ℕ → Option File
  before = (state_after_all v.start r.history).at

  -- what the step has to keep
  pub record NodeStepSeen : Type 0 where
    pub leaves_else : LeavesElse turn q words'
    pub homes : length homes' ≡ length st.homes
    pub grows : Grows x.number r.history h'
    pub legal : IsHistory v.start h'
    -- the history changes no slot, and of removed files only the node's
    pub at : (state_after_all v.start h').at ≡ before
    pub fresh : (state_after_all v.start h').fresh ≡ (state_after_all v.start r.history).fresh
    pub removed : (number : ℕ) → (state_after_all v.start h').removed number ≡ removed_in number (changed_at r.phase q ph (r.node_of number))
    -- other nodes
    pub home_else : (n : ℕ) → n < nodes_of v.start → n ≢ q → get_elem? homes' n ≡ get_elem? st.homes n
    pub owed_else : (n : ℕ) → n ≢ q → owed debt' v.start.passes n ≡ owed r.debt v.start.passes n
    pub taken_else : (n : ℕ) → n ≢ q → taking n d ≡ taking n v.work
    pub free_else : (n : ℕ) → n ≢ q → busy v.work ≢ n + 1
    -- the node: nobody but the pass relies on its phase, and a file at a slot stays there
    pub may : (ph ≡ r.phase q) ⊎ ((owner (r.phase q) ≡ 0) ⊎ (owner (r.phase q) ≡ id + 1))
    pub its_stock : r.phase q ≡ free → IsInStock x.stock q
    pub at_slot : (s : ℕ) (f : File) → r.phase q ≡ seated s f → ph ≡ seated s f
    pub open_file : (j : ℕ) (u : View) (f : File) → j ≢ id → get_elem? st.views j ≡ some u → held_in u.work ≡ Some f
        → file_in (r.phase q) ≡ Some f → file_in ph ≡ Some f
    pub guards : (p : ℕ) (e : Work) → p ≢ x.number → (0 < p) × (p ≤ v.start.passes)
        → HoldAgrees (word_at st.words (hold_word_of v.start p)) (r.debt p) e → GuardAgrees (slot_word st.words) r.phase p (r.debt p) e
        → HoldAgrees (word_at words' (hold_word_of v.start p)) (debt' p) e × GuardAgrees (slot_word words') (changed_at r.phase q ph) p (debt' p) e
    pub node : NodeAgrees before (slots_of v.start) (λ s. count_in (slot_word st.words s)) r.node_of r.nodes.next_number q
        (word_at words' (word_of v.start q)) (sum_by (taken_of q) (set st.views id (w turn after_seen))) (owed debt' v.start.passes q)
        (get_elem? homes' q) ph
    pub known : OwnerAgrees (set st.views id (w turn after_seen)) q ph
    pub label : Labels v.start words' q (written_in ph)
    -- the pass
    pub held : held_by h' x.number ≡ held_in d
    pub allowed : IsAllowed x.stock x.listed d
    pub its_own : Keeps turn after_seen id x.number d g
    pub holds : (n : ℕ) → (state_after_all v.start h').holds n + held_of n v ≡ (state_after_all v.start r.history).holds n + held_of n (w turn after_seen)

  -- The pass itself, where no slot's word has changed and it sees what it saw
  pub own_keeps_seen : ((s : ℕ) → s < slots_of v.start → slot_word words' s ≡ slot_word st.words s) → v.glance ≡ g
      → HoldAgrees (word_at words' (hold_word_of v.start x.number)) (debt' x.number) d
      → GuardAgrees (slot_word words') (changed_at r.phase q ph) x.number (debt' x.number) d → WorkAgrees v.start (changed_at r.phase q ph) id d
      → Keeps turn after_seen id x.number d g
  own_keeps_seen same is hold guard work = grind (arith, its_log, sees_same, its_log turn)

  -- another pass, whose hold word and debt have not changed
  pub guards_else_seen : ((s : ℕ) → s < slots_of v.start → slot_word words' s ≡ slot_word st.words s) → (p : ℕ) (e : Work)
      → word_at words' (hold_word_of v.start p) ≡ word_at st.words (hold_word_of v.start p) → debt' p ≡ r.debt p
      → (MayBeUncharged (slot_word st.words) p (r.phase q) → MayBeUncharged (slot_word words') p ph)
      → HoldAgrees (word_at st.words (hold_word_of v.start p)) (r.debt p) e → GuardAgrees (slot_word st.words) r.phase p (r.debt p) e
      → HoldAgrees (word_at words' (hold_word_of v.start p)) (debt' p) e × GuardAgrees (slot_word words') (changed_at r.phase q ph) p (debt' p) e
  guards_else_seen same p e held owes here = guards_same turn after_seen p e held owes (λ n. each_changed
      (λ m z. MayBeUncharged (slot_word st.words) p (r.phase m) → MayBeUncharged (slot_word words') p z) r.phase
      (λ is may. here (rw is at may)) (λ _. covers_same turn words' same p n))

  module _ (s : NodeStepSeen) where
    at_is : (slot : ℕ) → (state_after_all v.start h').at slot ≡ before slot
    at_is slot = ap (λ (f : ℕ → Option File). f slot) s.at

    same_slots : (i : ℕ) → i < slots_of v.start → slot_word words' i ≡ slot_word st.words i
    same_slots = s.leaves_else.slots

    leaves : Leaves turn after_seen
    leaves = record {
      guards = s.guards;
      owned = λ n some not_mine. each_changed (λ m z. z ≡ r.phase m) r.phase
          (λ same. ⊎_elim (λ still. still ∙ ap r.phase (sym same)) (λ z. let e = ap (λ (m : ℕ). owner (r.phase m)) same in
          absurd (⊎_elim (λ none. some (e ∙ none)) (λ mine. not_mine (e ∙ mine)) z)) s.may)
          (λ other. refl);
      spare = λ n p e is at other. each_changed (λ m z. z ≡ free) r.phase
          (λ same. let mine = in_its_stock turn (s.its_stock (ap r.phase (sym same) ∙ is)) in
          let both : in_stock p e ≡ in_stock x.number (s.its_stock (ap r.phase (sym same) ∙ is)).0 = sym at ∙ (ap r.nodes.where_is same ∙ mine.1) in
          absurd (other (cc both)))
          (λ _. is);
      open_file = λ j u f n other there holds at. (
        at.0,
        each_changed (λ m z. file_in z ≡ Some f) r.phase
            (λ same. s.open_file j u f other there holds (ap (λ (m : ℕ). file_in (r.phase m)) (sym same) ∙ at.1)) (λ _. at.1),
      );
      slots = λ i p l other. inr (refl, ap full_name_in (same_slots i l), λ hot. rw (same_slots i l) hot);
    }

    -- the pass may see no more than before
    pub node_kept_seen : IsSeenBy front h' → part_of_pass x.number h' ≡ part_of_pass x.number front → Agrees v.start (end turn after_seen)
    node_kept_seen seen own = step_kept turn after_seen record {
      words = s.leaves_else.as_long;
      homes = s.homes;
      life = record { grows = s.grows; legal = s.legal; seen = seen; own = own };
      nodes = record {
        each = λ n l. each_changed (λ n z. NodeAgrees (state_after_all v.start h').at (slots_of v.start)
            (λ i. count_in (slot_word words' i)) r.node_of r.nodes.next_number n (word_at words' (word_of v.start n))
            (sum_by (taken_of n) (set st.views id (w turn after_seen))) (owed debt' v.start.passes n) (get_elem? homes' n) z) r.phase
            (λ same. rw same (node_same (slots_of v.start) r.node_of q (omega arith) refl refl refl refl ph
            (λ i f is there. (at_is i, ap count_in (same_slots i (inside i f is)))) s.node))
            (λ other. node_same (slots_of v.start) r.node_of n (omega arith) (s.leaves_else.nodes n other)
            (let t = sum_set (taken_of n) st.views id v (w turn after_seen) here in let e = s.taken_else n other in omega arith)
            (s.owed_else n other) (s.home_else n l other) (r.phase n)
            (λ i f is there. (at_is i, ap count_in (same_slots i (node_in r l is).inside))) (r.nodes.each n l));
        owners = λ n l. each_changed (OwnerAgrees (set st.views id (w turn after_seen))) r.phase
            (λ same. rw same s.known) (λ other. owner_stays st.views id v (w turn after_seen) here n (s.free_else n other) (r.phase n) (r.nodes.owners n l));
        labels = λ n l. each_changed (λ n z. Labels v.start words' n (written_in z)) r.phase (λ same. rw same s.label)
            (λ other. labels_same v.start _ _ _ (written_in (r.phase n)) (s.leaves_else.labels n other) (r.nodes.labels n l));
        removed = s.removed;
        unborn = λ n l. each_changed (λ m z. z ≡ free) r.phase (λ same. absurd (omega (arith, same, l, its))) (λ _. r.nodes.unborn n l);
        fresh = λ number l. ap (λ (f : ℕ → Bool). f number) s.fresh ∙ r.nodes.fresh number l;
      };
      stocks = stocks_untouched turn words' (λ i l. ap name_in (same_slots i l));
      slots = record {
        each = λ i l. slot_same (same_slots i l) (at_is i) (λ q low high. refl)
            (λ f there seat. each_changed (λ m z. z ≡ r.phase m) r.phase
            (λ same. let e = ap r.phase (sym same) ∙ seat in s.at_slot i f e ∙ (sym e ∙ ap r.phase (sym same))) (λ _. refl))
            (r.slots i l);
        moves = λ i l. inl (same_slots i l);
      };
      holds = record {
        others = λ j u z other there at n range o work. keeps_other turn after_seen leaves j u z other there at n range o work;
        its = s.its_own;
        held = s.held;
        allowed = s.allowed;
        files = s.holds;
      };
      list = list_untouched turn after_seen s.leaves_else.lists (λ i p is. is) (λ l. l);
      range = range_left turn after_seen s.at s.leaves_else.alike refl refl;
      watch = watch_same v.start x.number (s.grows.seen r.history ([], refl)) same_slots s.leaves_else.alike.0 x.watch (its_log turn).watch;
    }
      where
        inside : (i : ℕ) (f : File) → ph ≡ seated i f → i < slots_of v.start
        inside i f is = (subst (NodeAgrees before (slots_of v.start) (λ s. count_in (slot_word st.words s)) r.node_of r.nodes.next_number q
            (word_at words' (word_of v.start q)) (sum_by (taken_of q) (set st.views id (w turn after_seen))) (owed debt' v.start.passes q)
            (get_elem? homes' q)) is s.node).inside

-- a step after which the pass has seen the whole history
module _ (turn : Turn) (q : ℕ) (its : q < nodes_of turn.v.start) (ph : Phase) (h' : List Event) (words' : List ℕ) (homes' : Homes)
    (debt' : ℕ → ℕ) (d : Work) (g : Glance) where
  open turn use {st, v, r, id, x}

  abbrev pub after : After turn
  after = after_seen turn q its ph h' h' words' homes' debt' d g

  abbrev pub NodeStep : Type 0
  NodeStep = NodeStepSeen turn q its ph h' h' words' homes' debt' d g

  pub own_keeps : ((s : ℕ) → s < slots_of v.start → slot_word words' s ≡ slot_word st.words s) → v.glance ≡ g
      → HoldAgrees (word_at words' (hold_word_of v.start x.number)) (debt' x.number) d
      → GuardAgrees (slot_word words') (changed_at r.phase q ph) x.number (debt' x.number) d → WorkAgrees v.start (changed_at r.phase q ph) id d
      → Keeps turn after id x.number d g
  own_keeps = own_keeps_seen turn q its ph h' h' words' homes' debt' d g

  pub guards_else : ((s : ℕ) → s < slots_of v.start → slot_word words' s ≡ slot_word st.words s) → (p : ℕ) (e : Work)
      → word_at words' (hold_word_of v.start p) ≡ word_at st.words (hold_word_of v.start p) → debt' p ≡ r.debt p
      → (MayBeUncharged (slot_word st.words) p (r.phase q) → MayBeUncharged (slot_word words') p ph)
      → HoldAgrees (word_at st.words (hold_word_of v.start p)) (r.debt p) e → GuardAgrees (slot_word st.words) r.phase p (r.debt p) e
      → HoldAgrees (word_at words' (hold_word_of v.start p)) (debt' p) e × GuardAgrees (slot_word words') (changed_at r.phase q ph) p (debt' p) e
  guards_else = guards_else_seen turn q its ph h' h' words' homes' debt' d g

  pub node_kept : NodeStep → Agrees v.start (end turn after)
  node_kept s = node_kept_seen turn q its ph h' h' words' homes' debt' d g s ([], refl) refl

-- the file of a node that has none
unremoved : (ph : Phase) → file_in ph ≡ None → (m : ℕ) → removed_in m ph ≡ None
unremoved ph is m = grind arith

-- A step of a pass on a node that no other pass knows: it works with the node, or takes it from its
-- stock. The node has no file before and after, and the history stays.
module _ (turn : Turn) (q : ℕ) (its : q < nodes_of turn.v.start) (ph : Phase) (front : List Event) (words' : List ℕ) (homes' : Homes)
    (d : Work) where
  open turn use {st, v, r, id, x, here, one}

  abbrev pub own_after : After turn
  own_after = after_seen turn q its ph r.history front words' homes' r.debt d v.glance

  pub record OwnNodeStep : Type 0 where
    pub leaves_else : LeavesElse turn q words'
    pub hold_words : (p : ℕ) → p ≤ v.start.passes → word_at words' (hold_word_of v.start p) ≡ word_at st.words (hold_word_of v.start p)
    pub homes : length homes' ≡ length st.homes
    pub home_else : (n : ℕ) → n < nodes_of v.start → n ≢ q → get_elem? homes' n ≡ get_elem? st.homes n
    pub mine : (owner (r.phase q) ≡ id + 1) ⊎ ((r.phase q ≡ free) × IsInStock x.stock q)
    pub empty : file_in (r.phase q) ≡ None
    pub still_empty : file_in ph ≡ None
    pub node : NodeAgrees (state_after_all v.start r.history).at (slots_of v.start) (λ s. count_in (slot_word st.words s)) r.node_of r.nodes.next_number q
        (word_at words' (word_of v.start q)) (sum_by (taken_of q) (set st.views id (w turn own_after))) (owed r.debt v.start.passes q)
        (get_elem? homes' q) ph
    pub known : OwnerAgrees (set st.views id (w turn own_after)) q ph
    pub label : Labels v.start words' q (written_in ph)
    -- the pass holds what it held
    pub holds : held_in d ≡ held_in v.work
    pub taken : (n : ℕ) → taking n d ≡ taking n v.work
    pub free_else : (n : ℕ) → n ≢ q → busy v.work ≢ n + 1
    pub allowed : IsAllowed x.stock x.listed d
    pub hold : HoldAgrees (word_at st.words (hold_word_of v.start x.number)) (r.debt x.number) d
    pub guarded : GuardAgrees (slot_word words') (changed_at r.phase q ph) x.number (r.debt x.number) d
    pub work : WorkAgrees v.start (changed_at r.phase q ph) id d

  pub own_node_kept : OwnNodeStep → IsSeenBy front r.history → part_of_pass x.number r.history ≡ part_of_pass x.number front
      → Agrees v.start (end turn own_after)
  own_node_kept s = node_kept_seen turn q its ph r.history front words' homes' r.debt d v.glance record {
    leaves_else = s.leaves_else;
    homes = s.homes;
    grows = grows_none x.number r.history;
    legal = r.life.legal;
    at = refl;
    fresh = refl;
    removed = λ m. r.nodes.removed m ∙ sym (each_changed (λ i z. removed_in m z ≡ removed_in m (r.phase i)) r.phase
        (λ is. unremoved ph s.still_empty m ∙ sym (ap (λ (i : ℕ). removed_in m (r.phase i)) is ∙ unremoved (r.phase q) s.empty m)) (λ _. refl));
    home_else = s.home_else;
    owed_else = λ m other. refl;
    taken_else = λ m other. s.taken m;
    free_else = s.free_else;
    may = inr (⊎_elim (λ mine. inr mine) (λ its. inl (ap owner its.0)) s.mine);
    its_stock = λ is. ⊎_elim (λ mine. absurd (let e = ap owner is in omega arith)) (λ its. its.1) s.mine;
    at_slot = λ i f is. let bad : None ≡ Some f = sym s.empty ∙ ap file_in is in absurd (cc bad);
    open_file = λ j u f other there holds is. let bad : None ≡ Some f = sym s.empty ∙ is in absurd (cc bad);
    guards = λ p e other range. guards_else_seen turn q its ph r.history front words' homes' r.debt d v.glance s.leaves_else.slots p e
        (s.hold_words p range.1) refl (λ may. absurd (grind arith));
    node = s.node;
    known = s.known;
    label = s.label;
    held = (its_log turn).held ∙ sym s.holds;
    allowed = s.allowed;
    its_own = own_keeps_seen turn q its ph r.history front words' homes' r.debt d v.glance s.leaves_else.slots refl
        (rw (s.hold_words x.number (in_range turn).1) s.hold) s.guarded s.work;
    holds = λ m. let a = ap (if_file m) s.holds in omega arith;
  }
