-- Sums over lists, and membership in a list.
use Rattle.fx_table.proofs.Words.{common_steps, subst, ◌≡◌, ◌≢◌, ℕ, zero, suc, ◌+◌, ◌-◌, ◌<◌, ◌≤◌, cond, eqb, List, map, refl, ap, arith, eq-eqb, ◌⊎◌}
use Rattle.fx_table.proofs.Words.{ne_eqb, inl, inr, count_by, range_with_len, sum_by-cons, dite, ℕ_discrete, changed_at, length, get_elem?, some, []}
use Rattle.fx_table.proofs.Words.{some-ne-none, some-injective, ◌∷◌, reverse, sym, ◌∙◌, ⊎_elim, Contains, All, set, sum_by, Bool, once, length-map}
use Rattle.fx_table.proofs.Words.{slice_index_or, get_or-map, get_or_default, All-contains_itself, sum, sum-map, sum_by-set, get_or-le-sum_by}
use Rattle.std.proofs.lemmas.List.Sorted.{Contains-permutation, IsPermutation-reverse, IsPermutation-sym, sum_by-IsPermutation}
use Rattle.std.proofs.lemmas.Simd.{map-map}

abbrev pub one_if : Bool → ℕ
one_if b = cond b 1 0

-- the number of times that the chain is in the list
abbrev pub times : ℕ → List ℕ → ℕ
times c l = count_by (λ d. eqb d c) l

pub bit_here : (p q : ℕ) → q ≡ p → one_if (eqb q p) ≡ 1
bit_here p q e = rw (eq-eqb q p e) refl

pub bit_else : (p q : ℕ) → q ≢ p → one_if (eqb q p) ≡ 0
bit_else p q e = rw (ne_eqb q p e) refl

pub bit_is : (p q : ℕ) → ((q ≡ p) × (one_if (eqb q p) ≡ 1)) ⊎ ((q ≢ p) × (one_if (eqb q p) ≡ 0))
bit_is p q = dite (ℕ_discrete q p) (λ e. inl (e, bit_here p q e)) (λ e. inr (e, bit_else p q e))

pub once_is : (n p : ℕ) → ((0 < p) × (p ≤ n) × (once n p ≡ 1)) ⊎ (((p ≡ 0) ⊎ (n < p)) × (once n p ≡ 0))
once_is n p = grind arith

-- one number more
pub once_more : (n m p : ℕ) → m ≡ n + 1 → once m p ≡ once n p + one_if (eqb m p)
once_more n m p is = omega (arith, is, once_is n p, once_is m p, bit_is p m)

-- one more or one less at a place
pub one_more_at : (f : ℕ → ℕ) (q n : ℕ) → changed_at f q (f q + 1) n ≡ f n + one_if (eqb q n)
one_more_at f q n = grind arith

pub one_less_at : (f : ℕ → ℕ) (q n : ℕ) → 0 < f q → changed_at f q (f q - 1) n + one_if (eqb q n) ≡ f n
one_less_at f q n held = grind arith

-- one element for each number: the count of elements with this number
module _ {X : Type 0} (number : X → ℕ) (new : ℕ → X) (its : (p : ℕ) → number (new p) ≡ p) (q : ℕ) where
  abbrev counted : ℕ → ℕ → ℕ
  counted p n = count_by (λ x. eqb (number x) q) (map new (range_with_len p n))

  counted_from : (p n : ℕ) → counted (p + 1) n + once p q ≡ once (p + n) q
  counted_from p zero = let e : p ≡ p + 0 = omega arith in let f = ap (λ m. once m q) e in omega arith
  counted_from p (suc n) = grind (arith, counted_from (p + 1) n, common_steps, sum_by-cons, once_more, once)

  pub counted_once : (n : ℕ) → counted 1 n ≡ once n q
  counted_once n = let e : 0 + n ≡ n = omega arith in omega (arith, counted_from 0 n, ap (λ m. once m q) e, once_is 0 q)

-- Membership in a list, by its first element and the others.

module _ {X : Type 0} where
  pub contains_none : (x : X) → Contains [] x → ⊥
  contains_none x h = omega (arith, h.1)

  pub contains_head : (x : X) (xs : List X) → Contains (x ∷ xs) x
  contains_head x xs = (0, omega arith, refl)

  pub contains_tail : (y : X) (xs : List X) (x : X) → Contains xs x → Contains (y ∷ xs) x
  contains_tail y xs x h = (suc h.0, omega (arith, h.1), h.2)

  pub contains_cases : (y : X) (xs : List X) (x : X) → Contains (y ∷ xs) x → (x ≡ y) ⊎ Contains xs x
  contains_cases y xs x h = grind arith

  -- the element at an index
  pub stands_at : (l : List X) (i : ℕ) (v : X) → get_elem? l i ≡ some v → (i < length l) × (slice_index_or l i v ≡ v)
  stands_at [] i v e = absurd (some-ne-none v (sym e))
  stands_at (x ∷ l) zero v e = (omega arith, some-injective x v e)
  stands_at (x ∷ l) (suc i) v e = let r = stands_at l i v e in (omega (arith, r.0), r.1)

  pub read_at : (l : List X) (i : ℕ) {v : X} (d : X) → get_elem? l i ≡ some v → slice_index_or l i d ≡ v
  read_at l i {v} d e = let at = stands_at l i v e in get_or_default l i d v at.0 ∙ at.1

  -- a list of one
  pub contains_only : (x y : X) → Contains (x ∷ []) y → y ≡ x
  contains_only x y h = ⊎_elim (λ is. is) (λ t. absurd (contains_none y t)) (contains_cases x [] y h)

  pub contains_alone : {xs : List X} {x : X} → xs ≡ x ∷ [] → Contains xs x
  contains_alone {xs} {x} e = subst (λ (l : List X). Contains l x) (sym e) (contains_head x [])

  pub each_all : (P : X → Type 0) (xs : List X) → ((x : X) → Contains xs x → P x) → All P xs
  each_all P xs f k d inside = f (slice_index_or xs k d) (All-contains_itself xs k d inside)

  pub contains_reverse : (xs : List X) (x : X) → Contains (reverse xs) x → Contains xs x
  contains_reverse xs x = Contains-permutation (reverse xs) xs x (IsPermutation-sym xs (reverse xs) (IsPermutation-reverse xs))

  pub contains_reversed : (xs : List X) (x : X) → Contains xs x → Contains (reverse xs) x
  contains_reversed xs x = Contains-permutation xs (reverse xs) x (IsPermutation-reverse xs)

pub contains_map : {X Y : Type 0} (f : X → Y) (xs : List X) (y : Y) → Contains (map f xs) y → (x : X) × Contains xs x × (y ≡ f x)
contains_map f [] y h = absurd (contains_none y h)
contains_map f (x ∷ xs) y (zero, inside, is) = (x, contains_head x xs, sym is)
contains_map f (x ∷ xs) y (suc k, inside, is) = grind (arith, contains_map f xs y (k, omega (arith, inside), is), contains_tail)

pub contains_mapped : {X Y : Type 0} (f : X → Y) (xs : List X) (x : X) → Contains xs x → Contains (map f xs) (f x)
contains_mapped f xs x (k, inside, is) = (k, omega (arith, length-map xs f, inside), get_or-map f xs k x (f x) inside ∙ ap f is)

-- Sums over lists, and the change of a sum if one element changes.

module _ {X : Type 0} (f : X → ℕ) where
  pub sum_set : (l : List X) (i : ℕ) (v w : X) → get_elem? l i ≡ some v → sum_by f (set l i w) + f v ≡ sum_by f l + f w
  sum_set l i v w e = let at = stands_at l i v e in let a = sum_by-set f l i w v at.0 in let b = ap f at.1 in omega arith

  pub sum_at : (l : List X) (i : ℕ) (v : X) → get_elem? l i ≡ some v → f v ≤ sum_by f l
  sum_at l i v e = let at = stands_at l i v e in let a = get_or-le-sum_by f l i v at.0 in let b = ap f at.1 in omega arith

  -- two elements at different places
  pub sum_two : (l : List X) (i j : ℕ) (v w : X) → i ≢ j → get_elem? l i ≡ some v → get_elem? l j ≡ some w → f v + f w ≤ sum_by f l
  sum_two [] i j v w n e g = absurd (some-ne-none v (sym e))
  sum_two (x ∷ xs) zero zero v w n e g = absurd (n refl)
  sum_two (x ∷ xs) zero (suc j) v w n e g = omega (arith, ap f (some-injective x v e), sum_at xs j w g, sum_by-cons f x xs)
  sum_two (x ∷ xs) (suc i) zero v w n e g = omega (arith, ap f (some-injective x w g), sum_at xs i v e, sum_by-cons f x xs)
  sum_two (x ∷ xs) (suc i) (suc j) v w n e g = omega (arith, sum_two xs i j v w (λ same. n (ap suc same)) e g, sum_by-cons f x xs)

  -- an element that the list contains
  pub sum_of : (l : List X) (v : X) → Contains l v → f v ≤ sum_by f l
  sum_of l v h = let a = get_or-le-sum_by f l h.0 v h.1 in let b = ap f h.2 in omega arith

  pub sum_reverse : (l : List X) → sum_by f (reverse l) ≡ sum_by f l
  sum_reverse l = sum_by-IsPermutation f l (reverse l) (IsPermutation-reverse l)

  pub sum_zero_at : (l : List X) → ((i : ℕ) (v : X) → get_elem? l i ≡ some v → f v ≡ 0) → sum_by f l ≡ 0
  sum_zero_at [] each = refl
  sum_zero_at (x ∷ l) each = omega (arith, sum_by-cons f x l, each 0 x refl, sum_zero_at l (λ i v e. each (suc i) v e))

  -- an element that adds to a sum
  pub found_sum : (l : List X) → 1 ≤ sum_by f l → (x : X) × Contains l x × (1 ≤ f x)
  found_sum [] low = absurd (omega arith)
  found_sum (x ∷ l) low = dite (ℕ_discrete (f x) 0)
      (λ none. let a = sum_by-cons f x l in let r = found_sum l (omega arith) in (r.0, contains_tail x l r.0 r.1, r.2)) (grind (arith, contains_head))

  pub sum_zero : (l : List X) → ((x : X) → Contains l x → f x ≡ 0) → sum_by f l ≡ 0
  sum_zero l each = grind (arith, found_sum)

  -- a sum that only one element adds to
  pub sum_only : (l : List X) (i : ℕ) (v : X) → get_elem? l i ≡ some v → ((j : ℕ) (u : X) → j ≢ i → get_elem? l j ≡ some u → f u ≡ 0)
      → sum_by f l ≡ f v
  sum_only [] i v at zeros = absurd (some-ne-none v (sym at))
  sum_only (x ∷ l) zero v at zeros =
      let none = sum_zero_at l (λ j u e. zeros (suc j) u (λ h. omega arith) e) in
      omega (arith, sum_by-cons f x l, none, ap f (some-injective x v at))
  sum_only (x ∷ l) (suc i) v at zeros =
      let rest = sum_only l i v at (λ j u n e. zeros (suc j) u (λ h. n (omega arith)) e) in
      omega (arith, sum_by-cons f x l, zeros 0 x (λ h. omega arith) refl, rest)

pub sum_le_at : {X : Type 0} (f g : X → ℕ) (l : List X) → ((i : ℕ) (v : X) → get_elem? l i ≡ some v → f v ≤ g v) → sum_by f l ≤ sum_by g l
sum_le_at f g [] h = omega arith
sum_le_at f g (x ∷ xs) h =
    omega (arith, h 0 x refl, sum_by-cons f x xs, sum_by-cons g x xs, sum_le_at f g xs (λ i v e. h (suc i) v e))

pub sum_le_of : {X : Type 0} (f g : X → ℕ) (l : List X) → ((x : X) → Contains l x → f x ≤ g x) → sum_by f l ≤ sum_by g l
sum_le_of f g l h = sum_le_at f g l (λ i v e. let at = stands_at l i v e in h v (i, at.0, at.1))

pub sum_map : {X Y : Type 0} (f : Y → ℕ) (g : X → Y) (l : List X) → sum_by f (map g l) ≡ sum_by (λ x. f (g x)) l
sum_map f g l = sym (sum-map f (map g l)) ∙ ap sum (map-map f g l) ∙ sum-map (λ x. f (g x)) l

-- an element that is counted for its number
pub found_by : {X : Type 0} (f : X → ℕ) (n : ℕ) (l : List X) → 1 ≤ count_by (λ x. eqb (f x) n) l → (x : X) × Contains l x × (f x ≡ n)
found_by f n l low = grind (arith, found_sum)
