-- Lists in parts, by a key of their elements.
use Rattle.fx_ring.proofs.Words.{common_steps, rules, ◌≡◌, ℕ, ◌+◌, ◌<◌, ◌≤◌, List, [], ◌∷◌, ◌++◌, flat_map, All, sum_by, refl, sym, ap, ◌∙◌, arith}
use Rattle.fx_ring.proofs.Words.{append-nil, ◌≢◌, ⊎_elim, All-nil, All-append, sum_by-cons, sum_of, Contains, range_with_len, length-range_with_len}
use Rattle.fx_ring.proofs.Words.{contains_none, get_or-range_with_len, contains_head, contains_tail, contains_cases, zero, suc, Bool, not, cond, map}
use Rattle.fx_ring.proofs.Words.{filter, length, All-filter, filter_passes, nat_tests, sum_by-filter_both, IsPermutation, slice_index_or, subst, ◌==◌}
use Rattle.fx_ring.proofs.Words.{ne_eqb, eq-eqb, All-head, All-tail, IsPermutation-refl, IsPermutation-trans, IsPermutation-append_right, true, false}
use Rattle.fx_ring.proofs.Words.{IsPermutation-filter_both, filter-append, append_assoc, length-append, IsPermutation-append_left, Event, Closed}
use Rattle.fx_ring.proofs.Words.{IsPermutation-append_comm, action_of, closed_by, closes_in}

pub number_within : {first : ℕ} (n : ℕ) {k : ℕ} → Contains (range_with_len first n) k → (first ≤ k) × (k < first + n)
number_within n h2 = grind (arith, length-range_with_len, get_or-range_with_len)

module _ {W X : Type 0} (g : W → List X) where
  pub no_parts : (ws : List W) → ((w : W) → Contains ws w → g w ≡ []) → flat_map g ws ≡ []
  no_parts [] none = refl
  no_parts (w ∷ ws) none =
      ap (λ (l : List X). l ++ flat_map g ws) (none w (contains_head w ws)) ∙ no_parts ws (λ v h. none v (contains_tail w ws v h))

  -- where one element is counted, and a part is empty where nothing is counted, that element's part
  -- is the whole
  pub one_part : {count : W → ℕ} (ws : List W) {w : W} → sum_by count ws ≤ 1 → Contains ws w → 1 ≤ count w
      → ((v : W) → Contains ws v → count v ≡ 0 → g v ≡ []) → flat_map g ws ≡ g w
  one_part [] {w} few h counted none = absurd (contains_none w h)
  one_part {count} (v ∷ ws) {w} few h counted none =
      let sum = sum_by-cons count v ws in
      ⊎_elim
      (λ (is : w ≡ v).
      let same = ap count is in
      ap (λ (l : List X). g v ++ l) (no_parts ws (λ u i. let part = sum_of count ws u i in none u (contains_tail v ws u i) (omega arith)))
      ∙ append-nil (g v) ∙ ap g (sym is))
      (λ t.
      let part = sum_of count ws w t in
      ap (λ (l : List X). l ++ flat_map g ws) (none v (contains_head v ws) (omega arith))
      ∙ one_part ws (omega arith) t counted (λ u i. none u (contains_tail v ws u i))) (contains_cases v ws w h)

  pub all_parts : (P : X → Type 0) (ws : List W) → ((w : W) → Contains ws w → All P (g w)) → All P (flat_map g ws)
  all_parts P [] each = All-nil P
  all_parts P (w ∷ ws) each =
      All-append P (g w) (flat_map g ws) (each w (contains_head w ws)) (all_parts P ws (λ v h. each v (contains_tail w ws v h)))

  -- what is made of the parts, one after another
  pub made_of_parts : {Y : Type 0} (made : List X → List Y) → made [] ≡ [] → ((xs ys : List X) → made (xs ++ ys) ≡ made xs ++ made ys)
      → (ws : List W) → made (flat_map g ws) ≡ flat_map (λ w. made (g w)) ws
  made_of_parts made none both [] = none
  made_of_parts {Y} made none both (w ∷ ws) = grind (arith, made_of_parts made none both ws)

-- parts that are the same for each element
pub same_parts : {W X : Type 0} {g h : W → List X} (ws : List W) → ((w : W) → Contains ws w → g w ≡ h w) → flat_map g ws ≡ flat_map h ws
same_parts [] each = refl
same_parts {g} {h} (w ∷ ws) each = λ i. each w (contains_head w ws) i ++ same_parts ws (λ v t. each v (contains_tail w ws v t)) i

-- A list in parts, by a key of its elements.

module _ {X : Type 0} (key : X → ℕ) where
  abbrev pub has : ℕ → X → Bool
  has first x = key x == first

  abbrev pub lacks : ℕ → X → Bool
  lacks first x = not (key x == first)

  -- those that lack a key have another one as often as all have it
  pub kept_lacking : (first other : ℕ) (xs : List X) → other ≢ first → filter (has other) (filter (lacks first) xs) ≡ filter (has other) xs
  kept_lacking first other [] apart = refl
  kept_lacking first other (x ∷ xs) apart = let rest = kept_lacking first other xs apart in grind (arith, nat_tests)

  abbrev Within : ℕ → ℕ → X → Type 0
  Within first n x = (first ≤ key x) × (key x < first + n)

  pub within_lacking : (first n : ℕ) (xs : List X) → All (Within first (suc n)) xs → All (Within (first + 1) n) (filter (lacks first) xs)
  within_lacking first n xs all = λ k d lt.
      grind (arith, common_steps, All-filter (lacks first) (Within first (suc n)) xs all k d lt, filter_passes (lacks first) xs k d lt, nat_tests)

  pub none_within : (first : ℕ) (xs : List X) → All (Within first 0) xs → xs ≡ []
  none_within first [] all = refl
  none_within first (x ∷ xs) all = let one = All-head (Within first 0) x xs all in let low = one.0 in let high = one.1 in absurd (omega arith)

  -- if each key is one of the `n` from the first on: what is made of the list is made of the parts
  -- by key
  pub made_by_key : {Y : Type 0} (made : List X → List Y) → made [] ≡ []
      → ((k : ℕ) (xs : List X) → IsPermutation (made xs) (made (filter (has k) xs) ++ made (filter (lacks k) xs)))
      → (first n : ℕ) (xs : List X) → All (Within first n) xs
      → IsPermutation (made xs) (flat_map (λ k. made (filter (has k) xs)) (range_with_len first n))
  made_by_key made none split first zero xs all = grind (arith, none_within)
  made_by_key made none split first (suc n) xs all =
      let parts = flat_map (λ k. made (filter (has k) xs)) (range_with_len (first + 1) n) in
      let others = made (filter (lacks first) xs) in
      let behind : IsPermutation others parts = subst (IsPermutation others) (same_parts (range_with_len (first + 1) n)
      (λ k i. let low = (number_within n i).0 in ap made (kept_lacking first k xs (λ same. omega arith))))
      (made_by_key made none split (first + 1) n (filter (lacks first) xs) (within_lacking first n xs all)) in
      let mine = made (filter (has first) xs) in
      IsPermutation-trans (made xs) (mine ++ others) (mine ++ parts) (split first xs) (IsPermutation-append_right mine others parts behind)

  pub split_by_key : (k : ℕ) (xs : List X) → IsPermutation xs (filter (has k) xs ++ filter (lacks k) xs)
  split_by_key k xs = IsPermutation-filter_both (has k) (lacks k) (λ _. refl) xs

  -- a sum over the list, if each key has no more than the number at its place of another list
  pub few_by_key : {Y : Type 0} (f : X → ℕ) (g : Y → ℕ) (d : Y) (first : ℕ) (ys : List Y) (xs : List X) → All (Within first (length ys)) xs
      → ((i : ℕ) → i < length ys → sum_by f (filter (has (first + i)) xs) ≤ g (slice_index_or ys i d)) → sum_by f xs ≤ sum_by g ys
  few_by_key f g d first [] xs all few = let none = ap (sum_by f) (none_within first xs all) in omega arith
  few_by_key f g d first (y ∷ ys) xs all few =
      let mine = filter (has first) xs in
      let others = filter (lacks first) xs in
      let both = sum_by-filter_both (has first) (lacks first) (λ _. refl) f xs in
      let sum = sum_by-cons g y ys in
      let place = ap (λ (k : ℕ). sum_by f (filter (has k) xs)) (let e : first + 0 ≡ first = omega arith in e) in
      let here = few 0 (omega arith) in
      let rest = few_by_key f g d (first + 1) ys others (within_lacking first (length ys) xs all) (λ i lt.
      let same = ap (sum_by f) (kept_lacking first (first + 1 + i) xs (λ same. omega arith)) in
      let next = ap (λ (k : ℕ). sum_by f (filter (has k) xs)) (let e : first + suc i ≡ first + 1 + i = omega arith in e) in
      let there = few (suc i) (omega arith) in omega arith) in
      omega arith

-- the elements with one key, if others are before them or after them
module _ {X : Type 0} (key : X → ℕ) (c : ℕ) where
  abbrev pub with_key : List X → List X
  with_key xs = filter (λ x. key x == c) xs

  all_kept : (xs : List X) → All (λ x. key x ≡ c) xs → with_key xs ≡ xs
  all_kept [] all = refl
  all_kept (x ∷ xs) all = rw (eq-eqb (key x) c (All-head (λ x. key x ≡ c) x xs all))
      (ap (λ (l : List X). x ∷ l) (all_kept xs (All-tail (λ x. key x ≡ c) x xs all)))

  pub none_kept : (xs : List X) → All (λ x. key x ≢ c) xs → with_key xs ≡ []
  none_kept [] none = refl
  none_kept (x ∷ xs) none = rw (ne_eqb (key x) c (All-head (λ x. key x ≢ c) x xs none)) (none_kept xs (All-tail (λ x. key x ≢ c) x xs none))

  module _ (xs ys : List X) where
    pub not_first : All (λ x. key x ≢ c) xs → with_key (xs ++ ys) ≡ with_key ys
    not_first none = filter-append (λ x. key x == c) xs ys ∙ ap (λ (l : List X). l ++ with_key ys) (none_kept xs none)

    pub not_second : All (λ x. key x ≢ c) ys → with_key (xs ++ ys) ≡ with_key xs
    not_second none = search (rules, filter-append, none_kept)

    pub only_first : All (λ x. key x ≡ c) xs → All (λ x. key x ≢ c) ys → with_key (xs ++ ys) ≡ xs
    only_first all none = not_second none ∙ all_kept xs all

    pub only_second : All (λ x. key x ≢ c) xs → All (λ x. key x ≡ c) ys → with_key (xs ++ ys) ≡ ys
    only_second none all = not_first none ∙ all_kept ys all

-- The files that a history closed, in parts by a key of its events.

abbrev pub closes_of : List Event → List Closed
closes_of h = closes_in (map action_of h)

-- the part before the last one is moved to the end
pub moved_behind : (a b c : List Closed) → IsPermutation ((a ++ b) ++ c) ((a ++ c) ++ b)
moved_behind a b c =
    subst (λ (l : List Closed). IsPermutation l ((a ++ c) ++ b)) (sym (append_assoc a b c))
    (subst (IsPermutation (a ++ (b ++ c))) (sym (append_assoc a c b))
    (IsPermutation-append_right a (b ++ c) (c ++ b) (IsPermutation-append_comm b c)))

module _ (key : Event → ℕ) where
  closes_split : (first : ℕ) (h : List Event)
      → IsPermutation (closes_of h) (closes_of (filter (has key first) h) ++ closes_of (filter (lacks key first) h))
  closes_split first [] = IsPermutation-refl []
  closes_split first (e ∷ h) =
      let mine : List Event = filter (has key first) h in
      let others : List Event = filter (lacks key first) h in
      let c : List Closed = closed_by e.action in
      let so_far : IsPermutation (closes_of h ++ c) ((closes_of mine ++ closes_of others) ++ c) =
      IsPermutation-append_left c (closes_of h) (closes_of mine ++ closes_of others) (closes_split first h) in
      elim (key e == first) as (λ b.
      IsPermutation (closes_of h ++ c) (closes_of (cond b (e ∷ mine) mine) ++ closes_of (cond (not b) (e ∷ others) others))) [
        | true ↦ IsPermutation-trans (closes_of h ++ c) ((closes_of mine ++ closes_of others) ++ c) ((closes_of mine ++ c) ++ closes_of others)
            so_far (moved_behind (closes_of mine) (closes_of others) c)
        | false ↦ subst (IsPermutation (closes_of h ++ c)) (append_assoc (closes_of mine) (closes_of others) c) so_far
      ]

  -- if each key is one of the `n` from the first on, the parts are all
  pub closes_by_key : (first n : ℕ) (h : List Event) → All (λ e. (first ≤ key e) × (key e < first + n)) h
      → IsPermutation (closes_of h) (flat_map (λ k. closes_of (filter (λ e. key e == k) h)) (range_with_len first n))
  closes_by_key = made_by_key key closes_of refl closes_split

-- how many they are
pub closes_sum : (h : List Event) → length (closes_of h) ≡ sum_by (λ e. length (closed_by e.action)) h
closes_sum [] = refl
closes_sum (e ∷ h) = grind (arith, closes_sum h, common_steps)
