-- A slot becomes vacant, or is taken.
use Rattle.fx_direct.proofs.Words.{arith, ◌≡◌, ℕ, ◌<◌, ◌==◌, true, false, List, [], ◌∷◌, ◌++◌, length, refl, subst, ◌∙◌, eqb-true, ◌||◌, IfSome}
use Rattle.fx_direct.proofs.Words.{append-nil, SlotRange, AllByRecursion, Order, IsOrder, AreOnce, is_among, is_among_vacant, ordered}
use Rattle.std.specs.List.{IsDistinct}
use Rattle.std.specs.Prelude.{Option, None, Some, if◌then◌else◌}
use Rattle.std.specs.Option.{option_to_list}
use Rattle.std.proofs.lemmas.List.Folds.{list_any-append}
use Rattle.std.proofs.lemmas.Map.Steps.{length-le_from_distinct_below}

pub among_more : (xs : List ℕ) (s t : ℕ) → is_among (xs ++ s ∷ []) t ≡ (is_among xs t || t == s)
among_more xs s t = grind (arith, list_any-append (λ x. t == x) xs (s ∷ []))

differ : (s t : ℕ) → s == t ≡ false → t == s ≡ false
differ s t e = grind arith

pub once_more : (xs : List ℕ) (s : ℕ) → AreOnce xs → is_among xs s ≡ false → AreOnce (xs ++ s ∷ [])
once_more [] s once out = (refl, tt)
once_more (x ∷ xs) s once out = grind (arith, once_more xs s, among_more xs s x, differ)

pub once_fewer : (xs : List ℕ) (s : ℕ) → AreOnce (xs ++ s ∷ []) → AreOnce xs × (is_among xs s ≡ false)
once_fewer [] s once = (tt, refl)
once_fewer (x ∷ xs) s once = grind (arith, once_fewer xs s, among_more xs s x, differ)

apart : (xs : List ℕ) (s : ℕ) → is_among xs s ≡ false → AllByRecursion (λ x. s == x ≡ false) xs
apart [] s out = tt
apart (x ∷ xs) s out = grind (arith, apart xs s)

distinct : (xs : List ℕ) → AreOnce xs → IsDistinct (λ x y. x == y) xs
unfolding IsDistinct
distinct [] once = tt
distinct (x ∷ xs) once = (apart xs x once.0, distinct xs once.1)

-- there is room for a slot that isn't vacant
pub room : (v : Order) (slot : ℕ) → IsOrder v → slot < v.size → is_among_vacant v slot ≡ false → length v.vacant < v.size
room v slot stock inside out =
    let few = length-le_from_distinct_below (slot ∷ v.vacant) v.size (distinct (slot ∷ v.vacant) (out, stock.once)) (λ q among. grind (arith, stock.inside q, eqb-true q slot)) in omega arith

pub put_in : (v : Order) (slot : ℕ) → IsOrder v → slot < v.size → is_among_vacant v slot ≡ false → IsOrder (ordered (v.vacant ++ slot ∷ []) v.size v.range)
put_in v slot stock inside out = grind (arith, once_more, among_more)

-- what a slot's taking leaves
module _ (new : List ℕ) (n : ℕ) (range : SlotRange) where
  pub left : (result : Option ℕ) (old : List ℕ) → old ≡ new ++ option_to_list result → IsOrder (ordered old n range) → IsOrder (ordered new n range)
  left None old e stock = subst (λ (xs : List ℕ). IsOrder (ordered xs n range)) (e ∙ append-nil new) stock
  left (Some slot) old e stock = record {
    once = (once_fewer new slot (subst AreOnce e stock.once)).0;
    inside = λ s among. grind (arith, among_more new slot s, stock.inside s);
  }

  taken : (slot : ℕ) → IsOrder (ordered (new ++ slot ∷ []) n range)
      → (slot < n) × (is_among (new ++ slot ∷ []) slot ≡ true) × ((other : ℕ) → is_among new other ≡ (if other == slot then false else is_among (new ++ slot ∷ []) other))
  taken slot stock =
      let last : is_among (new ++ slot ∷ []) slot ≡ true = grind (arith, among_more new slot slot) in (grind (arith, among_more, once_fewer))

  pub found : (result : Option ℕ) (old : List ℕ) → old ≡ new ++ option_to_list result → IsOrder (ordered old n range)
      → IfSome result (λ slot. (slot < n) × (is_among old slot ≡ true) × ((other : ℕ) → is_among new other ≡ (if other == slot then false else is_among old other)))
  found result old e stock = grind (arith, taken, ordered)
