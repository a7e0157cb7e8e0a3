-- Lists that others are appended to, and texts that are put into a set.
use Rattle.check_texts.proofs.Words.{contains_mapped, contains_none, Grows, List, None, Option, Some, [], inl, inr, length, map, refl, slice_index_or}
use Rattle.check_texts.proofs.Words.{string_bytes, subst, sym, take, true, ℕ, ⊎_elim, ◌++◌, ◌+◌, ◌<◌, ◌∷◌, ◌≡◌, cases_Bool, map-append, map_more}
use Rattle.check_texts.proofs.Words.{bytes_decides, list_any, option_to_list, All, Contains, IfSome, Global, String, Contains-append_left}
use Rattle.check_texts.proofs.Words.{Contains-push, Contains-push_cases, string_eq, each_all, Any-from_list_any}
use Rattle.indexmap.specs.IndexSet.{insert_key}

pub stays : {X : Type 0} {P : X → Type 0} {xs : List X} → Grows P xs xs
stays = record { kept = λ x inside. inside; from = λ x inside. inl inside }

pub grows_on : {X : Type 0} {P Q : X → Type 0} {xs ys zs : List X} → ((x : X) → Q x → P x) → Grows P xs ys → Grows Q ys zs → Grows P xs zs
grows_on weaker one more = record {
  kept = λ x inside. more.kept x (one.kept x inside);
  from = λ x inside. ⊎_elim (one.from x) (λ is. inr (weaker x is)) (more.from x inside);
}

-- one more after them
module _ {X Y : Type 0} (f : Y → X) (xs : List Y) {ys : List Y} (y : Y) (are : ys ≡ xs ++ y ∷ []) where
  pub has_pushed : Contains (map f ys) (f y)
  has_pushed = contains_mapped f ys y (rw are (Contains-push xs y))

  pub pushed : {P : X → Type 0} → P (f y) → Grows P (map f xs) (map f ys)
  pushed {P = P} is = rw (are, map-append f xs (y ∷ [])) (record {
    kept = Contains-append_left (map f xs) (f y ∷ []);
    from = λ x inside. ⊎_elim inl (λ same. inr (subst P same is)) (Contains-push_cases (map f xs) (f y) x inside);
  })

-- the element that is taken off the end of a list that began as empty
pub popped : {X Y : Type 0} (f : Y → X) {P : X → Type 0} {xs : List Y} (ys : List Y) (last : Option Y) → xs ≡ ys ++ option_to_list last
    → Grows P [] (map f xs) → IfSome last (λ y. P (f y))
popped f ys None are grows = tt
popped f ys (Some y) are grows = ⊎_elim (λ none. absurd (contains_none (f y) none)) (λ is. is) (grows.from (f y) (has_pushed f ys y are))

pub all_of_values : {X Y : Type 0} (f : Y → X) (ys : List Y) (P : X → Type 0) → ((x : X) → Contains (map f ys) x → P x) → All (λ y. P (f y)) ys
all_of_values f ys P each = each_all (λ y. P (f y)) ys (λ y inside. each (f y) (contains_mapped f ys y inside))

-- a walk over a list, at its next element
module _ {X Y : Type 0} (f : Y → X) (ys : List Y) {k : ℕ} {y : Y} (inside : k < length ys) (is : y ≡ slice_index_or ys k y) where
  pub at_value : Contains (map f ys) (f y)
  at_value = contains_mapped f ys y (k, inside, sym is)

  -- what holds of the values of the first elements holds of one more
  pub holds_more : {Q : X → Type 0} → ((x : X) → Contains (map f (take k ys)) x → Q x) → Q (f y)
      → (x : X) → Contains (map f (take (k + 1) ys)) x → Q x
  holds_more {Q = Q} before here x has =
      ⊎_elim (before x) (λ same. subst Q same here)
      (Contains-push_cases (map f (take k ys)) (f y) x (rw (map_more f ys k y inside, sym is) at has))

  -- they are there, and one more is appended to others
  pub there_more : {P : X → Type 0} {before now : List X} → Grows P before now
      → ((x : X) → Contains (map f (take k ys)) x → Contains before x) → Contains now (f y)
      → (x : X) → Contains (map f (take (k + 1) ys)) x → Contains now x
  there_more grows so_far = holds_more (λ x has. grows.kept x (so_far x has))

  -- what is new there comes of the next element's value
  pub from_more : {Z : Type 0} {From : X → Z → Type 0} {before now : List Z} → Grows (From (f y)) before now
      → ((z : Z) → Contains before z → (o : X) × Contains (map f ys) o × From o z)
      → (z : Z) → Contains now z → (o : X) × Contains (map f ys) o × From o z
  from_more grows each z has = ⊎_elim (each z) (λ new. (f y, at_value, new)) (grows.from z has)

-- a text that is inserted into a set is there, and nothing else is new
there : (k : String Global) (keys : List (String Global)) → list_any (string_eq k) keys ≡ true → Contains (map string_bytes keys) (string_bytes k)
there k keys some =
    let (i, x, low, at, same) = Any-from_list_any (string_eq k) keys some in
    rw ((bytes_decides (string_bytes k) (string_bytes x)).0 same) (contains_mapped string_bytes keys x (i, low, at))

pub inserted : (keys : List (String Global)) {new : List (String Global)} (k : String Global) → new ≡ insert_key string_eq keys k
    → Grows (λ t. t ≡ string_bytes k) (map string_bytes keys) (map string_bytes new) × Contains (map string_bytes new) (string_bytes k)
inserted keys k are = elim (cases_Bool (list_any (string_eq k) keys)) [
  | inl is ↦ rw (are, is) (stays, there k keys is)
  | inr is ↦ let are = rw is at are in (pushed string_bytes keys k are refl, has_pushed string_bytes keys k are)
]
