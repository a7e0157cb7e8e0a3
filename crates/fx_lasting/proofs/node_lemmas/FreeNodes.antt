-- A stock has more nodes than the other passes can use, so one of them is free whenever its pass
-- does nothing: no slot names a node of a stock.
use Rattle.fx_lasting.proofs.{Renewing, Nearing, Relieving, Placement, some-injective, IsAllowed, IsInStock, Bool, ◌≡◌, ℕ, zero, suc, ◌+◌, ◌<◌, ◌≤◌}
use Rattle.fx_lasting.proofs.{List, [], ◌∷◌, length, sym, refl, ap, ◌∙◌, subst, arith, some, get_elem?, ⊎_elim, ◌⊎◌, inl, inr, dite, ℕ_discrete, eqb}
use Rattle.fx_lasting.proofs.{one_if, sum_by, sum_by-cons, sum_at, sum_le_at, bit_here, bit_else, OwnerAgrees, HoldAgrees, Names, nodes_of}
use Rattle.fx_lasting.proofs.{hold_word_of, taken_of, lengths, Phase, free, placed, seated, leaving, retired, emptied, kept, Log, View, Work}
use Rattle.fx_lasting.proofs.{Announced, Counted, Guarded, Owing, Yielding, Placing, Retiring, Emptying, Does, Agrees, Shared, Start, ◌≢◌, get_or}
use Rattle.fx_lasting.proofs.{set, at_set, sum_set, Contains, contains_head, at_slot, in_stock, StockAgrees, name_of_file, find_pass, not_there}
use Rattle.fx_lasting.proofs.{owed_found, NodeIn, word_at, slot_word, HasBesides, alone_cases}
use Rattle.fx_lasting.proofs.Words.{Keeping}
use Rattle.std.proofs.lemmas.Grind.{common_steps}

-- a sum over the numbers below n
abbrev pub below : (ℕ → ℕ) → ℕ → ℕ
below f zero = 0
below f (suc n) = below f n + f n

below_le : (f g : ℕ → ℕ) (n : ℕ) → ((m : ℕ) → m < n → f m ≤ g m) → below f n ≤ below g n
below_le f g zero le = omega arith
below_le f g (suc n) le = let a = below_le f g n (λ m l. le m (omega arith)) in let b = le n (omega arith) in omega arith

below_ones : (n : ℕ) → below (λ m. 1) n ≡ n
below_ones zero = refl
below_ones (suc n) = let a = below_ones n in omega arith

below_zero : (f : ℕ → ℕ) (n : ℕ) → ((m : ℕ) → m < n → f m ≡ 0) → below f n ≡ 0
below_zero f zero none = refl
below_zero f (suc n) none = let a = below_zero f n (λ m l. none m (omega arith)) in let b = none n (omega arith) in omega arith

-- of numbers that are all different, at most one is this
below_one : (f : ℕ → ℕ) (place n : ℕ) → ((i j : ℕ) → i < n → j < n → f i ≡ f j → i ≡ j) → below (λ j. one_if (eqb place (f j))) n ≤ 1
below_one f place zero apart = omega arith
below_one f place (suc n) apart = dite (ℕ_discrete place (f n)) (grind (arith, below_zero, bit_else, bit_here))
    (λ other. let a = below_one f place n (λ i j l m same. apart i j (omega arith) (omega arith) same) in let b = bit_else (f n) place other in omega arith)

-- sums over numbers and over a list, one way and the other
sum_none : {X : Type 0} (xs : List X) → sum_by (λ x. 0) xs ≡ 0
sum_none [] = refl
sum_none (x ∷ xs) = let a = sum_none xs in let b = sum_by-cons (λ x. 0) x xs in omega arith

sum_plus : {X : Type 0} (f g : X → ℕ) (xs : List X) → sum_by (λ x. f x + g x) xs ≡ sum_by f xs + sum_by g xs
sum_plus f g [] = refl
sum_plus f g (x ∷ xs) = grind (arith, sum_plus f g xs, common_steps, sum_by-cons)

below_sum : {X : Type 0} (f : ℕ → X → ℕ) (xs : List X) (n : ℕ) → below (λ j. sum_by (f j) xs) n ≡ sum_by (λ x. below (λ j. f j x) n) xs
below_sum f xs zero = sym (sum_none xs)
below_sum f xs (suc n) = let a = below_sum f xs n in let b = sum_plus (λ x. below (λ j. f j x) n) (f n) xs in omega arith

-- the node that a pass works with, plus 1, or 0. A pass that places a file beside the one that it
-- holds works with a node of its own stock too
abbrev pub named_by : Work → ℕ
named_by (Announced n) = n + 1
named_by (Counted f n) = n + 1
named_by (Guarded f n) = n + 1
named_by (Owing n) = n + 1
named_by (Yielding f n) = n + 1
named_by (Placing n w) = n + 1
named_by (Renewing f n own w) = n + 1
named_by (Nearing n own w) = n + 1
named_by (Relieving f n own w) = n + 1
named_by (Retiring f n t nx m) = n + 1
named_by (Emptying n) = n + 1
named_by (Keeping n lost) = n + 1
named_by _ = 0

-- a pass that has placed a file beside another node did so on a node of its stock
own_stocked : (d : Work) {n : ℕ} {l : Placement} (stock : List ℕ) (listed : Bool) → HasBesides d n l → IsAllowed stock listed d → IsInStock stock n
own_stocked d stock listed has allowed = grind arith

-- and works with that other node
names_other : (d : Work) {n : ℕ} {l : Placement} → HasBesides d n l → named_by d ≢ 0
names_other d has none = grind arith

abbrev uses : ℕ → View → ℕ
uses n v = one_if (eqb (named_by v.work) (n + 1))

found_below : (P : ℕ → Type 0) → ((n : ℕ) → P n ⊎ (P n → ⊥)) → (n : ℕ) → ((m : ℕ) × (m < n) × P m) ⊎ ((m : ℕ) → m < n → P m → ⊥)
found_below P dec zero = inr (λ m l p. omega arith)
found_below P dec (suc n) = ⊎_elim (λ p. inl (n, omega arith, p)) (grind (arith, found_below P dec n)) (dec n)

is_free : (ph : Phase) → (ph ≡ free) ⊎ (ph ≡ free → ⊥)
is_free ph = grind arith

-- an entry of a list of numbers
pub entry_is : (l : List ℕ) (i : ℕ) → i < length l → get_elem? l i ≡ some (get_or l i 0)
entry_is [] i l = absurd (omega arith)
entry_is (x ∷ xs) zero l = refl
entry_is (x ∷ xs) (suc i) l = entry_is xs i (omega arith)

module _ {k : Start} {st : Shared} (r : Agrees k st) where
  abbrev view_use : ℕ → ℕ
  view_use n = sum_by (uses n) st.views

  used_by : (n j : ℕ) (u : View) → get_elem? st.views j ≡ some u → named_by u.work ≡ n + 1 → 1 ≤ view_use n
  used_by n j u there is = let a = sum_at (uses n) st.views j u there in let b = bit_here (n + 1) (named_by u.work) is in omega arith

  does_use : (n j : ℕ) {d : Work} → Does st.views j d → ((m : ℕ) (l : Placement) → d ≢ Placing m l) → named_by d ≡ n + 1 → 1 ≤ view_use n
  does_use n j o other is = used_by n j o.0 o.1 (⊎_elim (λ its. ap named_by its) (λ z. absurd (other z.0 z.1 z.3)) (alone_cases o.0.work o.2) ∙ is)

  -- a pass works with a node that isn't free, unless a slot names it
  used : (n : ℕ) → n < nodes_of k → ((s : ℕ) → r.nodes.where_is n ≢ at_slot s) → ((j : ℕ) (l : Placement) → Does st.views j (Placing n l) → 1 ≤ view_use n) → (ph : Phase) → r.phase n ≡ ph → (ph ≡ free → ⊥)
      → NodeIn r n ph → OwnerAgrees st.views n ph → 1 ≤ view_use n
  used n l away placed_use free is not_free o own = absurd (not_free refl)
  used n l away placed_use (placed j z) is not_free o own = placed_use j z own
  used n l away placed_use (seated s f) is not_free o own = let b = (r.slots s o.inside).names in
      let names = subst (Names r.node_of (slot_word st.words s)) o.there b in let e = o.file.its_node in let at = names.0 in
      let c = name_of_file (slot_word st.words s) n (omega arith) in let z = r.nodes.named s o.inside in let y = z.named in
      let same : z.node ≡ n = omega arith in absurd (away s (subst (λ (m : ℕ). r.nodes.where_is m ≡ at_slot s) same z.here))
  used n l away placed_use (leaving j t nx m f) is not_free o own = let a = does_use n j own (λ m l bad. cc bad) refl in omega arith
  used n l away placed_use (retired f) is not_free o own = dite (ℕ_discrete (sum_by (taken_of n) st.views) 0)
      (λ none. let z = owed_found r.debt k.passes n (let a = o.somebody in omega arith) in let y = find_pass r.life z.1 z.2 in
      let h = ((r.holds.views y.0 y.1 y.3).logs y.2 y.4).hold in
      let h' = subst (λ (p : ℕ). HoldAgrees (word_at st.words (hold_word_of k p)) (r.debt p) y.1.work) y.5 h in
      let a = used_by n y.0 y.1 y.3 (grind arith) in omega arith)
      (λ some_taken. let a = sum_le_at (taken_of n) (uses n) st.views (λ i u e. grind (arith, bit_here, bit_else)) in omega arith)
  used n l away placed_use (emptied j) is not_free o own = let a = does_use n j own (λ m l bad. cc bad) refl in omega arith
  used n l away placed_use (kept j lost) is not_free o own = let a = does_use n j own (λ m l bad. cc bad) refl in omega arith

  -- The nodes of a stock, while its pass looks for one
  module _ (id : ℕ) (v : View) (x : Log) (here : get_elem? st.views id ≡ some v) (one : v.logs ≡ x ∷ []) (still : named_by v.work ≡ 0) where
    abbrev own : ℕ → ℕ
    own j = get_or x.stock j 0

    stock : StockAgrees k r.nodes.where_is x.number x.stock
    stock = r.nodes.stocks id v x here (subst (λ (l : List Log). Contains l x) (sym one) (contains_head x []))

    own_here : (j : ℕ) → j < length x.stock → (own j < nodes_of k) × (r.nodes.where_is (own j) ≡ in_stock x.number j)
    own_here j l = (stock.its.inside j (own j) (entry_is x.stock j l), stock.here j (own j) (entry_is x.stock j l))

    own_apart : (i j : ℕ) → i < length x.stock → j < length x.stock → own i ≡ own j → i ≡ j
    own_apart i j l m same = let both : in_stock x.number i ≡ in_stock x.number j = sym (own_here i l).1 ∙ (ap r.nodes.where_is same ∙ (own_here j m).1) in cc both

    abbrev own_use : View → ℕ
    own_use u = below (λ j. uses (own j) u) (length x.stock)

    -- a view works with at most one of them, and this one with none
    at_most_one : (u : View) → own_use u ≤ 1
    at_most_one u = below_one (λ j. own j + 1) (named_by u.work) (length x.stock)
        (λ i j l m same. own_apart i j l m (omega (arith, same)))

    none_if : (u : View) → named_by u.work ≡ 0 → own_use u ≡ 0
    none_if u nothing = below_zero (λ j. uses (own j) u) (length x.stock) (λ m l. bit_else (own m + 1) (named_by u.work) (λ bad. omega (arith, bad, nothing)))

    -- a seat without a pass works with nothing
    one_each : (j : ℕ) (u : View) → get_elem? st.views j ≡ some u → own_use u ≤ lengths u
    one_each j u there = go u.logs refl
      where
        go : (l : List Log) → u.logs ≡ l → own_use u ≤ length u.logs
        go [] none = let e = none_if u (ap named_by ((r.life.seats j u there).empty none).0) in omega arith
        go (z ∷ l) is = let a = at_most_one u in let b = ap (length {A = Log}) is in omega arith

    -- all passes but this one
    abbrev left : View
    left = record v { logs = [] }

    one_else : (j : ℕ) (u : View) → get_elem? (set st.views id left) j ≡ some u → own_use u ≤ lengths u
    one_else j u there = ⊎_elim (λ (t : (j ≡ id) × (left ≡ u)). subst (λ (y : View). own_use y ≤ lengths y) t.1
        (let a = none_if left still in omega arith)) (λ (t : (j ≢ id) × (get_elem? st.views j ≡ some u)). one_each j u t.1) (at_set st.views id j left u there)

    few_used : sum_by own_use st.views + 1 ≤ k.passes
    few_used = let a = sum_set own_use st.views id v left here in let b = none_if v still in let c = none_if left still in
        let d = sum_set lengths st.views id v left here in let e = ap (length {A = Log}) one in let f = sum_le_at own_use lengths (set st.views id left) one_else in
        let g = r.life.whole in omega arith

    -- a pass that has another node besides places another stock's nodes: it isn't this one
    module _ (m : ℕ) (low : m < length x.stock) (j : ℕ) (u : View) (there : get_elem? st.views j ≡ some u) (n : ℕ) (l : Placement)
        (works : HasBesides u.work n l) (same : n ≡ own m) where
      by_log : (y : Log) → Contains u.logs y → ⊥
      by_log y has = let its = own_stocked u.work y.stock y.listed works ((r.holds.views j u there).logs y has).allowed in
          let named = (r.nodes.stocks j u y there has).here its.0 n its.1 in
          let both : in_stock y.number its.0 ≡ in_stock x.number m = sym named ∙ (ap r.nodes.where_is same ∙ (own_here m low).1) in
          let number : y.number ≡ x.number = cc both in dite (ℕ_discrete j id)
          (λ (is : j ≡ id). names_other u.work works (sym (ap (λ (w : View). named_by w.work) (some-injective v u (sym here ∙ (ap (get_elem? st.views) (sym is) ∙ there)))) ∙ still))
          (λ (ne : j ≢ id). not_there r.life here one ne there y has number)

      stray : ⊥
      stray = go u.logs refl
        where
          go : (l : List Log) → u.logs ≡ l → ⊥
          go [] none = names_other u.work works (ap named_by ((r.life.seats j u there).empty none).0)
          go (y ∷ ys) is = by_log y (subst (λ (l : List Log). Contains l y) (sym is) (contains_head y ys))

    -- so who places a node of this stock uses it alone
    placed_use : (m : ℕ) → m < length x.stock → (j : ℕ) (l : Placement) → Does st.views j (Placing (own m) l) → 1 ≤ view_use (own m)
    placed_use m low j l o = ⊎_elim (λ its. used_by (own m) j o.0 o.1 (ap named_by its))
        (λ z. let same : z.0 ≡ own m = cc (sym z.3) in absurd (stray m low j o.0 o.1 z.0 z.1 z.2 same)) (alone_cases o.0.work o.2)

    -- of as many nodes as there are passes one is free
    pub some_free : k.passes ≤ length x.stock → (entry : ℕ) × (entry < length x.stock) × (r.phase (own entry) ≡ free)
    some_free many = ⊎_elim (λ z. z)
        (λ none. absurd (
        let a = below_le (λ j. 1) (λ j. view_use (own j)) (length x.stock)
        (λ m l. let at = own_here m l in used (own m) at.0
        (λ s bad. let e : in_stock x.number m ≡ at_slot s = sym at.1 ∙ bad in cc e) (λ j z. placed_use m l j z) (r.phase (own m)) refl (none m l) (r.nodes.each (own m) at.0) (r.nodes.owners (own m) at.0)) in
        let c = below_ones (length x.stock) in let e = below_sum (λ j. uses (own j)) st.views (length x.stock) in let f = few_used in omega arith))
        (found_below (λ j. r.phase (own j) ≡ free) (λ j. is_free (r.phase (own j))) (length x.stock))
