-- Marks by their numbers, and lists in order of mark.
use Rattle.check_lines.proofs.Words.{mark_cmp, Mark, HasClosed, sum_by-cons, Submitted, Closed, sum_by-le, IsInOrderOfMark, CloseListView, Registered}
use Rattle.check_lines.proofs.Words.{Bool, false, List, if◌then◌else◌, suc, ℕ, ◌∙◌, ◌≡◌, slice_index_or, ◌+◌, ◌≤◌, ap, length, sym, All, [], arith}
use Rattle.check_lines.proofs.Words.{refl, ◌∷◌, true, ◌<◌, nat_cmp, Ordering, Equal, sum_by, is_lt, All-tail, All-head, All-cons}
use Rattle.check_lines.proofs.Words.{sum_by-IsPermutation, All-permutation, ranks_by, sorted_far}
use Rattle.std.specs.Cmp.{IsStrictWeakOrder}
use Rattle.std.specs.Cmp.Lexicographic.{nat_list_cmp_total, slice_cmp, texts_po}
use Rattle.std.specs.Ordering.{ordering_reverse}

-- a mark as a list of numbers, in the order of marks
abbrev pub numbers : Mark → List ℕ
numbers (Registered k i) = 0 ∷ k ∷ i ∷ []
numbers (Submitted s c m e) = 1 ∷ s ∷ c ∷ m ∷ e ∷ []

abbrev pub below : List ℕ → List ℕ → Bool
below k l = is_lt (slice_cmp nat_cmp k l)

pub same_cmp : (a b : Mark) → slice_cmp nat_cmp (numbers a) (numbers b) ≡ mark_cmp a b
same_cmp a b = grind arith

abbrev pub is_below : Closed → Closed → Bool
is_below x y = below (numbers x.mark) (numbers y.mark)

pub is_order : IsStrictWeakOrder is_below
is_order = ranks_by nat_list_cmp_total (λ (file : Closed). numbers file.mark)

-- two lists of numbers are equal if neither is below the other
level : (o p : Ordering) → o ≡ ordering_reverse p → is_lt o ≡ false → is_lt p ≡ false → o ≡ Equal
level o p turned one other = grind arith

pub neither_below : (x y : Closed) → is_below x y ≡ false → is_below y x ≡ false → x.mark ≡ y.mark
neither_below x y one other =
    grind (arith, level, nat_list_cmp_total.antisymm (numbers x.mark) (numbers y.mark), texts_po.matches_eq (numbers x.mark) (numbers y.mark))

-- none of them is below the first
abbrev pub AreNotBelow : Closed → List Closed → Type 0
AreNotBelow x ys = All (λ y. is_below y x ≡ false) ys

abbrev pub Rises : List Closed → Type 0
Rises [] = Unit {0}
Rises (x ∷ xs) = AreNotBelow x xs × Rises xs

-- a sorted list rises
rises_from : (xs : List Closed) → ((i j : ℕ) (d : Closed) → i ≤ j → j < length xs → is_below (slice_index_or xs j d) (slice_index_or xs i d) ≡ false)
    → Rises xs
rises_from [] far = tt
rises_from (x ∷ xs) far = (
  λ k d inside. far 0 (suc k) d (omega arith) (omega arith),
  rises_from xs (λ i j d le inside. far (suc i) (suc j) d (omega arith) (omega arith)),
)

in_order_rises : (xs : List Closed) → IsInOrderOfMark xs → Rises xs
in_order_rises xs up = rises_from xs (sorted_far is_below is_order xs
    (λ k d low high. ap is_lt (same_cmp (slice_index_or xs (k + 1) d).mark (slice_index_or xs k d).mark) ∙ up k d low high))

no_test : (b : Bool) → (b ≡ true → b ≡ false) → b ≡ false
no_test b is = grind arith

-- 1 where a file is below the other
abbrev lower : Closed → Closed → ℕ
lower y x = if is_below x y then 1 else 0

none_lower : (y : Closed) (zs : List Closed) → AreNotBelow y zs → sum_by (lower y) zs ≡ 0
none_lower y zs rises = omega (arith, sum_by-le (lower y) 0 zs (grind arith))

not_lower : (y x : Closed) → lower y x ≡ 0 → is_below x y ≡ false
not_lower y x none = no_test (is_below x y) (λ yes. absurd (let one : lower y x ≡ 1 = ap (λ (b : Bool). if b then 1 else 0) yes in omega arith))

module _ (P : Closed → Type 0) (one : (x y : Closed) → P x → P y → x.mark ≡ y.mark → x ≡ y) where
  first_too : (x : Closed) (xs : List Closed) → AreNotBelow x xs → AreNotBelow x (x ∷ xs)
  first_too x xs rises = All-cons (λ (y : Closed). is_below y x ≡ false) x xs (no_test (is_below x x) (is_order.one_way x x)) rises

  pub one_list : (xs ys : List Closed) → All P xs → All P ys → Rises xs → Rises ys → ((f : Closed → ℕ) → sum_by f ys ≡ sum_by f xs) → xs ≡ ys
  one_list [] [] all too up rise sums = refl
  one_list [] (y ∷ ys) all too up rise sums = absurd (omega (arith, sums (λ _. 1), sum_by-cons (λ (z : Closed). 1) y ys))
  one_list (x ∷ xs) [] all too up rise sums = absurd (omega (arith, sums (λ _. 1), sum_by-cons (λ (z : Closed). 1) x xs))
  one_list (x ∷ xs) (y ∷ ys) all too up rise sums =
      let x_first = none_lower x (x ∷ xs) (first_too x xs up.0) in let y_first = none_lower y (y ∷ ys) (first_too y ys rise.0) in
      let x_sums = sums (lower x) in let y_sums = sums (lower y) in
      let x_parts = sum_by-cons (lower x) y ys in let y_parts = sum_by-cons (lower y) x xs in
      let same : x ≡ y = one x y (All-head P x xs all) (All-head P y ys too)
      (neither_below x y (not_lower y x (omega arith)) (not_lower x y (omega arith))) in
      let rest : xs ≡ ys = one_list xs ys (All-tail P x xs all) (All-tail P y ys too) up.1 rise.1
      (λ h. omega (arith, sum_by-cons h x xs, sum_by-cons h y ys, sums h, ap h same)) in
      λ i. same i ∷ rest i

  -- the list of closed files that has them is one
  pub one_close_list : (files : List Closed) (a b : CloseListView) → All P files → HasClosed files a → HasClosed files b → a.files ≡ b.files
  one_close_list files a b all first second =
      one_list a.files b.files (All-permutation P files a.files first.same_files all) (All-permutation P files b.files second.same_files all)
      (in_order_rises a.files first.in_order) (in_order_rises b.files second.in_order)
      (λ f. sum_by-IsPermutation f files b.files second.same_files ∙ sym (sum_by-IsPermutation f files a.files first.same_files))
