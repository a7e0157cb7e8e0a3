-- A pass finds a free node of its stock, takes its place, and lays a node to rest.
use Rattle.fx_lasting.proofs.{◌⊎◌, HoldsAt, Renewing, File, IsIn, changed_else, ◌≡◌, ◌≢◌, ℕ, ◌+◌, ◌<◌, ◌≤◌, List, [], ◌∷◌, set, sym, refl, ap, ◌∙◌}
use Rattle.fx_lasting.proofs.{subst, arith, Option, Some, None, none, some, keeps, takes, gives, rest, set_here, set_else, Closed, WorkAgrees}
use Rattle.fx_lasting.proofs.{MayBeUncharged, nodes_of, word_of, hold_word_of, held_in, taken_of, taking, owed, free, placed, leaving}
use Rattle.fx_lasting.proofs.{emptied, owner, file_in, changed_here, Log, Work, Idle, Searching, Placing, Emptying, Seeks, Births, Rests, SeeksKeep}
use Rattle.fx_lasting.proofs.{BirthsKeep, RestsKeep, birth_word, step, inl, inr, ⊎_elim, dite, ℕ_discrete, sum_by, sum_set, length-set, Start, Agrees}
use Rattle.fx_lasting.proofs.{first_log, HasNoFile, HoldAgrees, IsAllowed, GuardAgrees, rested, changed_at, IsInStock, Bool, Counted}
use Rattle.fx_lasting.proofs.{Guarded, Announced, Nearing, Relieving, cond, le-ltb, get_or, HasItsPlace, Placement, as_written}
use Rattle.fx_lasting.proofs.{Unlabelled, grows_none, HasBesides, alone_cases, busy, covers_same, does_now, passed, Turn, turn_of, After, Homes}
use Rattle.fx_lasting.proofs.{word_at, slot_word, Made, by_turn, its_log, its_work, its_stock, in_its_stock, tells, tells_less, w, end, none_added}
use Rattle.fx_lasting.proofs.{node_words, node_here, node_hold, node_slot, node_leaves, in_phase}
use Rattle.fx_lasting.proofs.Calm.{read_before, read_before_kept, Reads}
use Rattle.fx_lasting.proofs.node_lemmas.Choosing.{no_file, no_take, not_busy, holds_none}
use Rattle.fx_lasting.proofs.node_lemmas.FreeNodes.{some_free, entry_is, named_by}
use Rattle.fx_lasting.proofs.node_lemmas.NodeSteps.{own_after, own_node_kept}

module _ (turn : Turn) where
  open turn use {st, v, r, id, x, here, one}

  -- a node whose word is 0 is free
  zero_free : {n : ℕ} → n < nodes_of v.start → word_at st.words (word_of v.start n) ≡ 0 → r.phase n ≡ free
  zero_free l is = grind (arith, free, leaving)

  free_zero : {n : ℕ} → n < nodes_of v.start → r.phase n ≡ free → word_at st.words (word_of v.start n) ≡ 0
  free_zero l is = (in_phase turn l is).counts

  -- a pass that looks for a node
  module _ (searches : HasNoFile v.work) (installs : x.number ≤ v.start.installing) where
    -- some node of its stock is free
    one_free : (e : ℕ) × (e < nodes_of v.start) × (r.phase e ≡ free) × IsInStock x.stock e
    one_free = let long = (its_stock turn).its.count ∙ ap (λ (b : Bool). cond b 0 v.start.passes) (le-ltb v.start.installing x.number installs) in
        let z = some_free r id v x here one (⊎_elim (λ e. ap named_by e) (λ z. ap named_by z.1) searches) (omega arith) in
        let at = entry_is x.stock z.0 z.1 in (get_or x.stock z.0 0, (its_stock turn).its.inside z.0 (get_or x.stock z.0 0) at, z.2, (z.0, at))

    searching : (e : ℕ) → e < nodes_of v.start → r.phase e ≡ free → IsInStock x.stock e → Reads turn (Searching e) v.glance r.history
    searching e l is stocked = grind (
      arith,
      its_log,
      none_added,
      no_take,
      not_busy,
      no_file,
      holds_none,
      its_log turn,
      none_added turn,
      not_busy searches,
      no_file searches,
    )

    -- the node that the pass settles on, after a load of this one
    module _ (n : ℕ) (stocked : IsInStock x.stock n) where
      abbrev found : ℕ
      found = word_at st.words (word_of v.start n)

      abbrev Choice : ℕ → Type 0
      Choice e = (e < nodes_of v.start) × (r.phase e ≡ free) × IsInStock x.stock e × (found ≡ 0 → e ≡ n) × (found ≢ 0 → e ≢ n)
          × ((k : ℕ) → v.work ≡ Searching k → found ≢ 0 → e ≡ k)

      inside : n < nodes_of v.start
      inside = (in_its_stock turn stocked).0

      choice : (e : ℕ) × Choice e
      choice = dite (ℕ_discrete found 0)
          (λ is. (n, (inside, zero_free inside is, stocked, λ _. refl, λ not_so. absurd (not_so is), λ k w not_so. absurd (not_so is))))
          (λ not_so. let apart : (e : ℕ) → e < nodes_of v.start → r.phase e ≡ free → e ≢ n =
          λ e l is same. not_so (ap (λ (i : ℕ). word_at st.words (word_of v.start i)) (sym same) ∙ free_zero l is) in ⊎_elim
          (λ idle. let z = one_free in (
            z.0,
            (
              z.1,
              z.2,
              z.3,
              λ is. absurd (not_so is),
              λ _. apart z.0 z.1 z.2,
              λ k w _. let bad : Idle ≡ Searching k = sym idle ∙ w in cc bad,
            ),
          ))
          (λ s. let o = subst (WorkAgrees v.start r.phase id) s.1 (its_work turn) in
          let b : IsInStock x.stock s.0 = rw s.1 at (its_log turn).allowed in (
            s.0,
            (
              o.0,
              o.1,
              b,
              λ is. absurd (not_so is),
              λ _. apart s.0 o.0 o.1,
              λ k w _. let same : Searching s.0 ≡ Searching k = sym s.1 ∙ w in cc same,
            ),
          )) searches)

      pub seek : (slots : ℕ) (carried : List (ℕ × Option Closed))
          → Made turn carried (word_of v.start n) (λ word. word) (Seeks (step slots (word_of v.start n) 0 0 none) (v, carried))
      seek slots carried = let e = choice in (
        w turn (read_before turn (Searching e.0) v.glance r.history x.front),
        keeps,
        tt,
        read_before_kept turn (Searching e.0) v.glance x.front (word_of v.start n) (passed turn).seen (passed turn).own
            (searching e.0 e.1.0 e.1.1 e.1.2),
        record {
          node = e.0;
          goes = record {
            stepped = tells_less turn (read_before turn (Searching e.0) v.glance r.history x.front) refl carried carried refl e.1.0;
            carried = refl;
          };
          stock = subst (λ (l : List ℕ). IsInStock l e.0) (sym (ap (λ (l : List Log). (first_log l).stock) one)) e.1.2;
          here = λ is. ap (word_of v.start) (sym (e.1.3 is));
          other = λ not_so same. e.1.4 not_so (omega arith);
          stays = λ k w not_so. e.1.5 k w not_so;
        },
      )

  -- a birth
  module _ (n : ℕ) (works : v.work ≡ Searching n) where
    its : (n < nodes_of v.start) × (r.phase n ≡ free)
    its = subst (WorkAgrees v.start r.phase id) works (its_work turn)

    abbrev homes₁ : Homes
    homes₁ = set st.homes n none

    abbrev words₁ : List ℕ
    words₁ = node_words turn n its.0 birth_word

    abbrev new : Placement
    new = as_written 0 Unlabelled

    abbrev born_after : After turn
    born_after = own_after turn n its.0 (placed id new) r.history words₁ homes₁ (Placing n new)

    birth : Agrees v.start (end turn born_after)
    birth = let o = its_log turn in let node = in_phase turn its.0 its.1 in
        own_node_kept turn n its.0 (placed id new) r.history words₁ homes₁ (Placing n new) record {
          leaves_else = node_leaves turn n its.0 birth_word;
          hold_words = node_hold turn n its.0 birth_word;
          homes = length-set st.homes n none;
          home_else = λ m l other. set_else st.homes n m none other;
          mine = inr (its.1, rw works at o.allowed);
          empty = ap file_in its.1;
          still_empty = refl;
          node = grind (arith, sum_set, taking, node_here, its, set_here, none);
          known = does_now st.views id v (w turn born_after) (Placing n new) here refl;
          label = tt;
          holds = sym (ap held_in works);
          taken = λ m. sym (ap (taking m) works);
          free_else = λ m other bad. let a = ap busy works in omega arith;
          allowed = rw works at o.allowed;
          hold = rw works at o.hold;
          guarded = tt;
          work = (its.0, changed_here r.phase n (placed id new) n refl);
        } ([], refl) refl

    pub births : (slots : ℕ) (carried : List (ℕ × Option Closed))
        → Made turn carried (word_of v.start n) (λ _. birth_word) (λ _. Births (step slots (word_of v.start n) birth_word 0 none) (v, carried) birth_word)
    births slots carried = (
      w turn born_after,
      takes n None,
      (in_phase turn its.0 its.1).at_home,
      birth,
      record {
        goes = λ m works'. let same : n ≡ m = cc (sym works ∙ works') in rw (← same)
            (tells turn born_after refl carried ((n, None) ∷ carried) [] (grows_none x.number r.history) r.life.legal refl its.0, refl);
      },
    )

  -- a rest, of a node whose file is closed, or which was placed in vain
  module _ (n : ℕ) (works : HasItsPlace v.work n) where
    -- what the pass does: it may have another node besides
    its_work_is : (v.work ≡ Emptying n) ⊎ (((l : Placement) × (v.work ≡ Placing n l)) ⊎ ((l : Placement) × HasBesides v.work n l))
    its_work_is = ⊎_elim
        (λ e. inl e)
        (λ e. ⊎_elim (λ is. inr (inl (e.0, is)))
        (λ z. let same : z.0 ≡ n = cc (sym z.3) in inr (inr (z.1, subst (λ (i : ℕ). HasBesides v.work i z.1) same z.2))) (alone_cases v.work e.1))
        works

    -- what holds of each work with the place, and of the same work after the rest
    by_rest : (P : Work → Work → Type 0) → P (Emptying n) Idle → ((l : Placement) → P (Placing n l) (Searching n))
        → ((f : File) (held : ℕ) (l : Placement) → P (Renewing f held n l) (Counted f held) × P (Relieving f held n l) (Guarded f held))
        → ((m : ℕ) (l : Placement) → P (Nearing m n l) (Announced m)) → P v.work (rested v.work)
    by_rest P out unplaced held near = grind (arith, its_work_is)

    -- the node has no file, and nobody else knows it
    abbrev Its : Type 0
    Its = (n < nodes_of v.start) × (owner (r.phase n) ≡ id + 1) × (file_in (r.phase n) ≡ None) × (sum_by (taken_of n) st.views ≡ 0)
        × (owed r.debt v.start.passes n ≡ 0)

    its_node : Its
    its_node = by_rest (λ d e. WorkAgrees v.start r.phase id d → Its)
        (λ (o : IsIn v.start r.phase n (emptied id)). let z = in_phase turn o.0 o.1 in (o.0, ap owner o.1, ap file_in o.1, z.untaken, z.unowed)) placed_node
        (λ f held l. (λ both. placed_node l both.1, λ both. placed_node l both.1)) (λ m l both. placed_node l both.1) (its_work turn)
      where
        placed_node : (l : Placement) → IsIn v.start r.phase n (placed id l) → Its
        placed_node l o = let z = in_phase turn o.0 o.1 in (o.0, ap owner o.1, ap file_in o.1, z.untaken, z.unowed)

    -- what the pass does afterwards: nothing, or it may place this node again, or it holds what it
    -- held
    abbrev d : Work
    d = rested v.work

    abbrev homes₀ : Homes
    homes₀ = set st.homes n (some None)

    abbrev words₀ : List ℕ
    words₀ = node_words turn n its_node.0 0

    abbrev rest_after : After turn
    rest_after = own_after turn n its_node.0 free r.history words₀ homes₀ d

    -- the other node isn't this one, whose file isn't installed
    apart : (f : File) (held : ℕ) → HoldsAt v.start r.phase f held → held ≢ n
    apart f held o same = let bad : None ≡ Some f = sym its_node.2 ∙ (ap (λ (i : ℕ). file_in (r.phase i)) (sym same) ∙ o.1) in cc bad

    stays_open : (f : File) (held : ℕ) → HoldsAt v.start r.phase f held → HoldsAt v.start (changed_at r.phase n free) f held
    stays_open f held o = (o.0, ap file_in (changed_else r.phase n free held (apart f held o)) ∙ o.1)

    busy_so : busy v.work ≡ n + 1
    busy_so = by_rest (λ d e. busy d ≡ n + 1) refl (λ l. refl) (λ f held l. (refl, refl)) (λ m l. refl)

    as_taken : (m : ℕ) → taking m d ≡ taking m v.work
    as_taken m = by_rest (λ d e. taking m e ≡ taking m d) refl (λ l. refl) (λ f held l. (refl, refl)) (λ k l. refl)

    still_guarded : GuardAgrees (slot_word words₀) (changed_at r.phase n free) x.number (r.debt x.number) d
    still_guarded = by_rest (λ d e. WorkAgrees v.start r.phase id d → GuardAgrees (slot_word st.words) r.phase x.number (r.debt x.number) d
        → GuardAgrees (slot_word words₀) (changed_at r.phase n free) x.number (r.debt x.number) e) (λ a g. tt) (λ l a g. tt)
        (λ f held l. (
          λ a g. tt,
          λ a g none. subst (MayBeUncharged (slot_word words₀) x.number) (sym (changed_else r.phase n free held (apart f held a.0)))
              (covers_same turn words₀ (node_slot turn n its_node.0 0) x.number held (g none)),
        )) (λ m l a g. tt) (its_work turn) (its_log turn).guarded

    resting : Agrees v.start (end turn rest_after)
    resting = let q = its_node in let o = its_log turn in
        own_node_kept turn n q.0 free r.history words₀ homes₀ d record {
          leaves_else = node_leaves turn n q.0 0;
          hold_words = node_hold turn n q.0 0;
          homes = length-set st.homes n (some None);
          home_else = λ m l other. set_else st.homes n m (some None) other;
          mine = inl q.1;
          empty = q.2;
          still_empty = refl;
          node = let t = sum_set (taken_of n) st.views id v (w turn rest_after) here in grind (arith, as_taken, node_here, set_here, some);
          known = tt;
          label = tt;
          holds = by_rest (λ d e. held_in e ≡ held_in d) refl (λ l. refl) (λ f held l. (refl, refl)) (λ m l. refl);
          taken = as_taken;
          free_else = λ m other bad. let a = busy_so in other (omega arith);
          allowed = by_rest (λ d e. IsAllowed x.stock x.listed d → IsAllowed x.stock x.listed e) (λ a. tt) (λ l a. a) (λ f held l. (λ a. tt, λ a. a.1))
              (λ m l a. a.1) o.allowed;
          hold = by_rest (λ d e. HoldAgrees (word_at st.words (hold_word_of v.start x.number)) (r.debt x.number) d
              → HoldAgrees (word_at st.words (hold_word_of v.start x.number)) (r.debt x.number) e) (λ h. h) (λ l h. h) (λ f held l. (λ h. h, λ h. h)) (λ m l h. h) o.hold;
          guarded = still_guarded;
          work = by_rest (λ d e. WorkAgrees v.start r.phase id d → WorkAgrees v.start (changed_at r.phase n free) id e) (λ a. tt)
              (λ l a. (q.0, changed_here r.phase n free n refl)) (λ f held l. (λ a. stays_open f held a.0, λ a. stays_open f held a.0)) (λ m l a. a.0) (its_work turn);
        } ([], refl) refl

    pub rests : (slots : ℕ) (carried : List (ℕ × Option Closed)) → carried ≡ (n, None) ∷ []
        → Made turn carried (word_of v.start n) (λ _. 0) (λ _. Rests (step slots (word_of v.start n) 0 0 none) (v, carried) 0)
    rests slots carried has = (
      w turn rest_after,
      gives,
      tt,
      rw has resting,
      record {
        stepped = tells turn rest_after refl carried (rest carried) [] (grows_none x.number r.history) r.life.legal refl
            (grind (arith, its_node, its_work));
        carried = refl;
      },
    )

pub seeks_keep : SeeksKeep Seeks
seeks_keep k slots id i n m x has searches installs stocked place = by_turn slots (λ (k : Start). (x.number ≤ k.installing) × IsInStock x.stock n)
    (λ k. word_of k n) (λ word. word) (λ i. Seeks (step slots i 0 0 none) m) has (installs, stocked) place
    (λ st r here so fits. seek (turn_of m x has.1 id st r here) searches so.0 n so.1 slots m.1)

pub births_keep : BirthsKeep Births
births_keep k slots id i n m x has works place = by_turn slots (λ _. Unit {0}) (λ k. word_of k n) (λ _. birth_word)
    (λ i _. Births (step slots i birth_word 0 none) m birth_word) has tt place
    (λ st r here _ fits. births (turn_of m x has.1 id st r here) n works slots m.1)

pub rests_keep : RestsKeep Rests
rests_keep k slots id i n m x has works carries place = by_turn slots (λ _. Unit {0}) (λ k. word_of k n) (λ _. 0)
    (λ i _. Rests (step slots i 0 0 none) m 0) has tt place
    (λ st r here _ fits. rests (turn_of m x has.1 id st r here) n works slots m.1 carries)
