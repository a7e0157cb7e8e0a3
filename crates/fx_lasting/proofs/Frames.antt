-- A step of one seat leaves other seats, slots and nodes as they were.
use Rattle.fx_lasting.proofs.Words.{alone_in, Placement, Renewing, Nearing, Relieving, HoldsBesides, ◌≡◌, ◌≢◌, ℕ, ◌+◌, ◌<◌, ◌≤◌, List, set, sym, refl, ap, ◌∙◌}
use Rattle.fx_lasting.proofs.Words.{subst, arith, Option, Some, File, inl, inr, some, some-injective, get_elem?, set_here, set_else, stands_at, ◌⊎◌, dite}
use Rattle.fx_lasting.proofs.Words.{ℕ_discrete, SlotAgrees, NodeAgrees, OwnerAgrees, WorkAgrees, LogAgrees, HoldAgrees, GuardAgrees, Does, GlanceAgrees, Heats}
use Rattle.fx_lasting.proofs.Words.{MayBeUncharged, in_stock, Contains, IsHot, HoldsAt, Home, IsFileOfNode, full_name_in, count_in, word_of}
use Rattle.fx_lasting.proofs.Words.{hold_word_of, slots_of, nodes_of, state_after_all, held_in, Nodes, Start, Phase, free, seated, leaving, owner, Glance, Log}
use Rattle.fx_lasting.proofs.Words.{View, Work, Idle, Announced, Counted, Guarded, Owing, Yielding, Searching, Placing, Retiring, Emptying, Keeping, taken_of}
use Rattle.fx_lasting.proofs.Words.{owed, sum_by, Deed, untouched, over, label_of, written_in, file_in, Event}
use Rattle.fx_lasting.proofs.Counts.{tally_same}
use Rattle.fx_lasting.proofs.Keeping.{Turn, After, Homes, Keeps, NodesStep, LeavesFiles, LabelSame, labels_same, w, word_at, slot_word}

-- the node that a pass alone works with, plus 1, or 0
abbrev pub busy : Work → ℕ
busy (Placing n w) = n + 1
busy (Renewing f held n w) = n + 1
busy (Nearing m n w) = n + 1
busy (Relieving f held n w) = n + 1
busy (Retiring f n takes next charges) = n + 1
busy (Emptying n) = n + 1
busy (Keeping n lost) = n + 1
busy _ = 0

-- a pass that has placed a file on this node holds the file of another node, or announces it
abbrev pub HasBesides : Work → ℕ → Placement → Type 0
HasBesides w n l = ((f : File) × (held : ℕ) × HoldsBesides w f held n l) ⊎ ((m : ℕ) × (w ≡ Nearing m n l))

-- what a pass does with a node alone is its whole work, or it has another node besides
pub alone_cases : (w : Work) {d : Work} → alone_in w ≡ d → (w ≡ d) ⊎ ((n : ℕ) × (l : Placement) × HasBesides w n l × (d ≡ Placing n l))
alone_cases (Renewing f held n l) is = inr (n, l, inl (f, held, inl refl), sym is)
alone_cases (Relieving f held n l) is = inr (n, l, inl (f, held, inr refl), sym is)
alone_cases (Nearing m n l) is = inr (n, l, inr (m, refl), sym is)
alone_cases _ is = inl is

pub busy_alone : (w : Work) → busy w ≡ busy (alone_in w)
busy_alone w = grind arith

-- a node with an open file has the file's label
pub written_of : (ph : Phase) {f : File} → file_in ph ≡ Some f → written_in ph ≡ label_of f.identity
written_of ph is = grind arith

-- the pass of a node is known in other views too, if what is done with it is
pub owner_map : (views others : List View) (n : ℕ)
    → ((j : ℕ) (d : Work) → busy d ≡ n + 1 → Does views j d → Does others j d) → (ph : Phase) → OwnerAgrees views n ph
    → OwnerAgrees others n ph
owner_map views others n f ph o = grind arith

pub does_now : (views : List View) (id : ℕ) (v w : View) (d : Work) → get_elem? views id ≡ some v → alone_in w.work ≡ d → Does (set views id w) id d
does_now views id v w d here is = (w, set_here views id w (stands_at views id v here).0, is)

module _ (views : List View) (id : ℕ) (v w : View) (here : get_elem? views id ≡ some v) where
  does_else : {j : ℕ} {d : Work} → j ≢ id → Does views j d → Does (set views id w) j d
  does_else {j} other o = (o.0, set_else views id j w other ∙ o.1, o.2)

  work_of : {j : ℕ} {d : Work} → j ≡ id → Does views j d → alone_in v.work ≡ d
  work_of same o = ap (λ (u : View). alone_in u.work) (some-injective v o.0 (sym here ∙ (ap (get_elem? views) (sym same) ∙ o.1))) ∙ o.2

  -- a node that the pass was not busy with
  pub owner_stays : (n : ℕ) → busy v.work ≢ n + 1 → (ph : Phase) → OwnerAgrees views n ph → OwnerAgrees (set views id w) n ph
  owner_stays n idle = owner_map views (set views id w) n (λ j d is o. does_else (λ same. idle (busy_alone v.work ∙ (ap busy (work_of same o) ∙ is))) o)

  -- any node, after a step that leaves the pass at its work with a node alone
  pub owner_same : alone_in w.work ≡ alone_in v.work → (n : ℕ) (ph : Phase) → OwnerAgrees views n ph → OwnerAgrees (set views id w) n ph
  owner_same same n = owner_map views (set views id w) n (λ j d is o. dite (ℕ_discrete j id)
      (λ (e : j ≡ id). subst (λ (i : ℕ). Does (set views id w) i d) (sym e) (does_now views id v w d here (same ∙ work_of e o)))
      (λ (e : j ≢ id). does_else e o))

-- a file whose number and place have not changed
pub file_same : {node_of : Nodes} {next next' n : ℕ} {home home' : Home} {f : File} → next ≤ next' → home' ≡ home → IsFileOfNode node_of next n home f
    → IsFileOfNode node_of next' n home' f
file_same later homed o = grind arith

-- a node of which nothing has changed
module _ {at at' : ℕ → Option File} (size : ℕ) {takes_at takes_at' : ℕ → ℕ} (node_of : Nodes) {next next' : ℕ} (n : ℕ)
    {word word' taken taken' owing owing' : ℕ} {home home' : Home} (later : next ≤ next') (worded : word' ≡ word) (counted : taken' ≡ taken)
    (owed : owing' ≡ owing) (homed : home' ≡ home) where
  pub node_same : (ph : Phase) → ((s : ℕ) (f : File) → ph ≡ seated s f → at s ≡ Some f → (at' s ≡ at s) × (takes_at' s ≡ takes_at s))
      → NodeAgrees at size takes_at node_of next n word taken owing home ph
      → NodeAgrees at' size takes_at' node_of next' n word' taken' owing' home' ph
  node_same ph same o = grind (arith, file_same)

-- a slot whose word and file stay
pub slot_same : {k : Start} {node_of : Nodes} {phase phase' : ℕ → Phase} {deed deed' : ℕ → Deed} {slot word word' : ℕ}
    {there there' : Option File} → word' ≡ word → there' ≡ there → ((p : ℕ) → 0 < p → p ≤ k.passes → deed' p ≡ deed p)
    → ((f : File) → there ≡ Some f → phase (node_of f.number) ≡ seated slot f → phase' (node_of f.number) ≡ phase (node_of f.number))
    → SlotAgrees k node_of phase deed slot there word → SlotAgrees k node_of phase' deed' slot there' word'
slot_same same_word same_file did same so = grind (arith, tally_same)

-- a slot's word as other passes see it: it has another file, or goes on with the same one
abbrev pub SlotGoesOn : ℕ → ℕ → Deed → Deed → Type 0
SlotGoesOn old new deed deed' = (deed' ≡ untouched) ⊎ ((deed' ≡ deed) × (full_name_in new ≡ full_name_in old) × (IsHot old → IsHot new))

-- how far a look-up is, and what it has still to heat, where slots go on so
module _ (k : Start) (word word' : ℕ → ℕ) (deed deed' : ℕ → Deed)
    (slots : (s : ℕ) → s < slots_of k → SlotGoesOn (word s) (word' s) (deed s) (deed' s)) where
  pub sees_on : (g : Glance) → GlanceAgrees k word deed g → GlanceAgrees k word' deed' g
  sees_on g h2 = grind (arith, untouched)

  pub heats_on : (g : Glance) → Heats k deed g → Heats k deed' g
  heats_on g h = grind (arith, untouched, over)

-- The facts that other passes rely on, after a step.
module _ (turn : Turn) (a : After turn) where
  open turn use {st, v, r, id, x, here, one}

  pub record Leaves : Type 0 where
    -- their hold words, their debts, and the files that they hold by them
    pub guards : (q : ℕ) (d : Work) → q ≢ x.number → (0 < q) × (q ≤ v.start.passes)
        → HoldAgrees (word_at st.words (hold_word_of v.start q)) (r.debt q) d → GuardAgrees (slot_word st.words) r.phase q (r.debt q) d
        → HoldAgrees (word_at a.words (hold_word_of v.start q)) (a.debt q) d × GuardAgrees (slot_word a.words) a.phase q (a.debt q) d
    pub owned : (n : ℕ) → owner (r.phase n) ≢ 0 → owner (r.phase n) ≢ id + 1 → a.phase n ≡ r.phase n
    pub spare : (n q entry : ℕ) → r.phase n ≡ free → r.nodes.where_is n ≡ in_stock q entry → q ≢ x.number → a.phase n ≡ free
    pub open_file : (j : ℕ) (u : View) (f : File) (n : ℕ) → j ≢ id → get_elem? st.views j ≡ some u → held_in u.work ≡ Some f
        → HoldsAt v.start r.phase f n → HoldsAt v.start a.phase f n
    pub slots : (s q : ℕ) → s < slots_of v.start → q ≢ x.number
        → SlotGoesOn (slot_word st.words s) (slot_word a.words s) (r.deed s q) (a.deed s q)

  module _ (leaves : Leaves) (j : ℕ) (u : View) (z : Log) (other : j ≢ id) (there : get_elem? st.views j ≡ some u) (has : Contains u.logs z)
      (n : z.number ≢ x.number)
      (range : (0 < z.number) × (z.number ≤ v.start.passes))
      (o : LogAgrees v.start r.history st.words r.phase r.debt r.deed u.work u.glance z) where
    same_for : {m : ℕ} {ph : Phase} → r.phase m ≡ ph → owner ph ≡ j + 1 → a.phase m ≡ ph
    same_for is own = grind arith

    work_stays : (d : Work) → u.work ≡ d → WorkAgrees v.start r.phase j d → WorkAgrees v.start a.phase j d
    work_stays (Counted f m) is at = leaves.open_file j u f m other there (ap held_in is) at
    work_stays (Guarded f m) is at = leaves.open_file j u f m other there (ap held_in is) at
    work_stays (Yielding f m) is at = leaves.open_file j u f m other there (ap held_in is) at
    work_stays (Searching m) is at = let b = rw is at o.allowed in
        (at.0, leaves.spare m z.number b.0 at.1 ((r.nodes.stocks j u z there has).here b.0 m b.1) n)
    work_stays (Renewing f m own w) is at = (leaves.open_file j u f m other there (ap held_in is) at.0, (at.1.0, same_for at.1.1 refl))
    work_stays (Nearing m own w) is at = (at.0, (at.1.0, same_for at.1.1 refl))
    work_stays (Relieving f m own w) is at = (leaves.open_file j u f m other there (ap held_in is) at.0, (at.1.0, same_for at.1.1 refl))
    work_stays Idle is at = at
    work_stays (Announced m) is at = at
    work_stays (Owing m) is at = at
    work_stays _ is at = (at.0, same_for at.1 refl)

    pub keeps_other : WorkAgrees v.start r.phase j u.work → Keeps turn a j z.number u.work u.glance
    keeps_other h1 = grind (arith, sees_on, heats_on, work_stays)

  -- hold words and debts that are as they were
  pub guards_same : (q : ℕ) (d : Work) → word_at a.words (hold_word_of v.start q) ≡ word_at st.words (hold_word_of v.start q) → a.debt q ≡ r.debt q
      → ((n : ℕ) → MayBeUncharged (slot_word st.words) q (r.phase n) → MayBeUncharged (slot_word a.words) q (a.phase n))
      → HoldAgrees (word_at st.words (hold_word_of v.start q)) (r.debt q) d → GuardAgrees (slot_word st.words) r.phase q (r.debt q) d
      → HoldAgrees (word_at a.words (hold_word_of v.start q)) (a.debt q) d × GuardAgrees (slot_word a.words) a.phase q (a.debt q) d
  guards_same q d same owes covers hold guard = grind arith

-- a step that leaves the phase, the number and the label of each node: it may change what takes the
-- nodes' words count
pub nodes_untouched : (turn : Turn) (w : View) {h' : List Event} {words' : List ℕ} {homes' : Homes} {debt' : ℕ → ℕ} → LeavesFiles turn h'
    → ((n : ℕ) → LabelSame turn.v.start words' turn.st.words n) → (alone_in w.work ≡ alone_in turn.v.work) ⊎ (busy turn.v.work ≡ 0)
    → ((n : ℕ) → n < nodes_of turn.v.start → NodeAgrees (state_after_all turn.v.start h').at (slots_of turn.v.start) (λ s. count_in (slot_word words' s))
    turn.r.node_of turn.r.nodes.next_number n (word_at words' (word_of turn.v.start n)) (sum_by (taken_of n) (set turn.st.views turn.id w))
    (owed debt' turn.v.start.passes n) (get_elem? homes' n) (turn.r.phase n))
    → NodesStep turn h' words' homes' (set turn.st.views turn.id w) turn.r.phase turn.r.nodes.next_number debt'
nodes_untouched turn w files labels alone each = grind (arith, owner_same, owner_stays, labels_same)

-- how far a look-up is, where no slot's word and no take of the pass has changed
pub sees_same : (k : Start) {word word' : ℕ → ℕ} (deed : ℕ → Deed) → ((s : ℕ) → s < slots_of k → word' s ≡ word s) → (g : Glance)
    → GlanceAgrees k word deed g → GlanceAgrees k word' deed g
sees_same k deed same g h5 = grind arith

-- who may be uncharged, where each hot slot stays hot
module _ (turn : Turn) (words' : List ℕ) (hot : (s : ℕ) → s < slots_of turn.v.start → IsHot (slot_word turn.st.words s) → IsHot (slot_word words' s)) where
  open turn use {st, v, r, id, x, here, one}

  pub covers_hot : (p n : ℕ) → MayBeUncharged (slot_word st.words) p (r.phase n) → MayBeUncharged (slot_word words') p (r.phase n)
  covers_hot p n = grind (arith, seated, leaving)

-- where no slot's word has changed
pub covers_same : (turn : Turn) (words' : List ℕ) → ((s : ℕ) → s < slots_of turn.v.start → slot_word words' s ≡ slot_word turn.st.words s) → (p n : ℕ)
    → MayBeUncharged (slot_word turn.st.words) p (turn.r.phase n) → MayBeUncharged (slot_word words') p (turn.r.phase n)
covers_same turn words' same = covers_hot turn words' (λ s l is. rw (same s l) is)
