-- A list in strict order is the only one of its elements that is in order.
use Rattle.fx_ring.proofs.Words.{Bool, false, ◌∙◌, ◌≢◌, length, contains_head, contains_none, contains_tail, ◌≡◌, ℕ, suc, ◌<◌, List, [], ◌∷◌, All, ap}
use Rattle.fx_ring.proofs.Words.{Contains, IsPermutation, refl, sym, ◌==◌, arith, ⊎_elim, slice_index_or, eq-eqb, ne_eqb, IsNonDecreasingBy}
use Rattle.fx_ring.proofs.Words.{All-contains, Contains-permutation, IsPermutation-sym, contains_cases, IsDistinct-IsPermutation, IsDistinct-cons}
use Rattle.fx_ring.proofs.Words.{apart_from_distinct, false≢true, nat_tests, recursion_from_All}
use Rattle.std.specs.List.{IsDistinct}

module _ {X : Type 0} (key : X → ℕ) where
  -- each element's key is below the keys of those after it
  abbrev pub Rises : List X → Type 0
  Rises [] = Unit {0}
  Rises (x ∷ xs) = All (λ y. key x < key y) xs × Rises xs

  abbrev is_alike : X → X → Bool
  is_alike x y = key x == key y

  are_distinct : (xs : List X) → Rises xs → IsDistinct is_alike xs
  unfolding IsDistinct
  are_distinct [] rises = tt
  are_distinct (x ∷ xs) rises = IsDistinct-cons is_alike x xs (recursion_from_All (λ y. is_alike x y ≡ false) xs
      (λ k d lt. let above = rises.0 k d lt in ne_eqb (key x) (key (slice_index_or xs k d)) (λ same. omega arith))) (are_distinct xs rises.1)

  rises_strictly : (ys : List X) → ((i j : ℕ) (d : X) → i < j → j < length ys → key (slice_index_or ys i d) < key (slice_index_or ys j d)) → Rises ys
  rises_strictly [] less = tt
  rises_strictly (y ∷ ys) less = (
    λ k d lt. less 0 (suc k) d (omega arith) (omega arith),
    rises_strictly ys (λ i j d low high. less (suc i) (suc j) d (omega arith) (omega arith)),
  )

  -- without the first element, which both have, each element of one list is one of the other
  behind : {x y : X} (xs ys : List X) → x ≡ y → Rises (x ∷ xs) → ((z : X) → Contains (x ∷ xs) z → Contains (y ∷ ys) z)
      → (z : X) → Contains xs z → Contains ys z
  behind {x} {y} xs ys is rises has z there = grind (arith, contains_cases y ys z (has z (contains_tail x xs z there)))

  one_order : (xs ys : List X) → Rises xs → Rises ys → ((z : X) → Contains xs z → Contains ys z) → ((z : X) → Contains ys z → Contains xs z) → xs ≡ ys
  one_order [] [] left right has had = refl
  one_order [] (y ∷ ys) left right has had = absurd (contains_none y (had y (contains_head y ys)))
  one_order (x ∷ xs) [] left right has had = absurd (contains_none x (has x (contains_head x xs)))
  one_order (x ∷ xs) (y ∷ ys) left right has had =
      let is : x ≡ y = grind (arith, contains_cases x xs y (had y (contains_head y ys)), contains_cases y ys x (has x (contains_head x xs))) in
      λ i. is i ∷ one_order xs ys left.1 right.1 (behind xs ys is left has) (behind ys xs (sym is) right had) i

  -- two lists of the same elements, one in strict order of key and one in order: they are equal
  pub one_list_in_order : {xs ys : List X} → IsPermutation xs ys → Rises xs → IsNonDecreasingBy key ys → xs ≡ ys
  one_list_in_order {xs} {ys} same rises up =
      let distinct = IsDistinct-IsPermutation is_alike (λ x y. grind (arith, nat_tests)) xs ys same (are_distinct xs rises) in
      one_order xs ys rises (rises_strictly ys (λ i j d low high.
      let le = up i j d (omega arith) high in
      let apart = apart_from_distinct is_alike ys i j d distinct low high in
      let other : key (slice_index_or ys i d) ≢ key (slice_index_or ys j d) = λ is. false≢true (sym apart ∙ eq-eqb _ _ is) in omega arith))
      (λ z. Contains-permutation xs ys z same) (λ z. Contains-permutation ys xs z (IsPermutation-sym xs ys same))
