-- The files that accesses place at slots, the files at the slots then, and the removed ones.
use Rattle.fx_order.proofs.Words.{◌≡◌, ◌≢◌, ◌⊎◌, inl, inr, ⊎_elim, ℕ, ◌<◌, List, [], ◌∷◌, ◌++◌, Contains, refl, sym, ap, ◌∙◌, arith, with_file}
use Rattle.fx_order.proofs.Words.{Option, Some, None, option_to_list, Contains-append_right, Closed, contains_none, contains_head, contains_cases}
use Rattle.fx_order.proofs.Words.{Table, Puts, Allocates, Permits, PermitsAll, table_with, table_after, file_removed_by, files_removed_in, Access}
use Rattle.fx_order.proofs.Accesses.{at_itself}

-- the file that an access places, with its slot
abbrev pub placed_by : Access → List (ℕ × Closed)
placed_by (Puts slot file removed) = (slot, file) ∷ []
placed_by (Allocates slot file) = (slot, file) ∷ []
placed_by access = []

-- the files that they place, one after another
abbrev pub placed : List Access → List (ℕ × Closed)
placed [] = []
placed (access ∷ accesses) = placed_by access ++ placed accesses

pub placed-append : (xs ys : List Access) → placed (xs ++ ys) ≡ placed xs ++ placed ys
placed-append [] ys = refl
placed-append (x ∷ xs) ys = grind (arith, placed-append xs ys)

-- the file is one that was placed at the slot
abbrev pub Has : List (ℕ × Closed) → ℕ → Closed → Type 0
Has [] slot file = ⊥
Has (p ∷ l) slot file = (p ≡ (slot, file)) ⊎ Has l slot file

pub has_left : (xs ys : List (ℕ × Closed)) (slot : ℕ) (file : Closed) → Has xs slot file → Has (xs ++ ys) slot file
has_left [] ys slot file has = absurd has
has_left (x ∷ xs) ys slot file (inl here) = inl here
has_left (x ∷ xs) ys slot file (inr later) = inr (has_left xs ys slot file later)

pub has_right : (xs ys : List (ℕ × Closed)) (slot : ℕ) (file : Closed) → Has ys slot file → Has (xs ++ ys) slot file
has_right [] ys slot file has = has
has_right (x ∷ xs) ys slot file has = inr (has_right xs ys slot file has)

pub has_either : (xs ys : List (ℕ × Closed)) (slot : ℕ) (file : Closed) → Has (xs ++ ys) slot file → Has xs slot file ⊎ Has ys slot file
has_either [] ys slot file has = inr has
has_either (x ∷ xs) ys slot file (inl here) = inl (inl here)
has_either (x ∷ xs) ys slot file (inr later) = ⊎_elim (λ first. inl (inr first)) (λ second. inr second) (has_either xs ys slot file later)

-- the accesses remove the file
abbrev pub Removes : List Access → Closed → Type 0
Removes [] file = ⊥
Removes (access ∷ accesses) file = (file_removed_by access ≡ Some file) ⊎ Removes accesses file

-- a file that is at a slot after a write was there, and the write was elsewhere, or it is the
-- written one
written : (t : Table) {slot : ℕ} {new : Option Closed} {s : ℕ} {f : Closed} → (with_file t slot new).at s ≡ Some f
    → ((s ≢ slot) × (t.at s ≡ Some f)) ⊎ ((s ≡ slot) × (new ≡ Some f))
written t {slot} {new} {s} {f} = grind arith

-- a file that is at a slot after an access was there, or the access placed it
pub step_from : (t : Table) (x : Access) {s : ℕ} {f : Closed} → (table_with t x).at s ≡ Some f → (t.at s ≡ Some f) ⊎ Has (placed_by x) s f
step_from t x is = grind (arith, written)

-- a file that is at a slot after all of them was there, or was placed there
pub left_from : (t : Table) (xs : List Access) (s : ℕ) (f : Closed) → (table_after t xs).at s ≡ Some f → (t.at s ≡ Some f) ⊎ Has (placed xs) s f
left_from t [] s f is = inl is
left_from t (x ∷ xs) s f is = grind (arith, left_from (table_with t x) xs s f is, has_left, step_from, has_right)

-- a file at a slot is there after a write, or the write removed it
kept : (t : Table) (slot : ℕ) (removed new : Option Closed) (s : ℕ) (f : Closed) → removed ≡ t.at slot → t.at s ≡ Some f
    → ((with_file t slot new).at s ≡ Some f) ⊎ (removed ≡ Some f)
kept t slot removed new s f found was = grind arith

-- a file at a slot is there after an access, or the access removed it
step_kept : (t : Table) (x : Access) {s : ℕ} {f : Closed} → Permits t x → t.at s ≡ Some f → ((table_with t x).at s ≡ Some f) ⊎ (file_removed_by x ≡ Some f)
step_kept t x may was = grind (arith, kept)

-- the file that an access places is there afterwards
step_placed : (t : Table) (x : Access) (s : ℕ) {f : Closed} → Has (placed_by x) s f → (table_with t x).at s ≡ Some f
step_placed t x s h4 = grind (arith, at_itself)

-- a file that was at a slot, or was placed there, is there after all of them, or they removed it
pub left_or_removed : (t : Table) (xs : List Access) {s : ℕ} {f : Closed} → PermitsAll t xs → (t.at s ≡ Some f) ⊎ Has (placed xs) s f
    → ((table_after t xs).at s ≡ Some f) ⊎ Removes xs f
left_or_removed t [] may (inl was) = inl was
left_or_removed t [] may (inr none) = absurd none
left_or_removed t (x ∷ xs) may (inl was) = ⊎_elim
    (λ now. ⊎_elim (λ end. inl end) (λ gone. inr (inr gone)) (left_or_removed (table_with t x) xs may.1 (inl now))) (λ gone. inr (inl gone))
    (step_kept t x may.0 was)
left_or_removed t (x ∷ xs) {s} {f} may (inr new) = ⊎_elim (λ end. inl end) (λ gone. inr (inr gone)) (left_or_removed (table_with t x) xs may.1
    (⊎_elim (λ here. inl (step_placed t x s here)) (λ later. inr later) (has_either (placed_by x) (placed xs) s f new)))

-- the slot of a removed file: it was there, and what is there then is another file that the access
-- placed, or none
pub record IsEmptied (t : Table) (x : Access) (g : Closed) : Type 0 where
  pub slot : ℕ
  pub inside : slot < t.size
  pub was : t.at slot ≡ Some g
  pub after : (s : ℕ) (f : Closed) → (table_with t x).at s ≡ Some f → ((s ≢ slot) × (t.at s ≡ Some f)) ⊎ Has (placed_by x) s f

pub emptied : (t : Table) (x : Access) (g : Closed) → Permits t x → file_removed_by x ≡ Some g → IsEmptied t x g
emptied t x g may is = grind arith

pub same_size : (t : Table) (x : Access) → (table_with t x).size ≡ t.size
same_size t x = grind arith

-- the place that a removed file had
pub record WasAt (t : Table) (l : List (ℕ × Closed)) (g : Closed) : Type 0 where
  pub slot : ℕ
  pub inside : slot < t.size
  pub was : (t.at slot ≡ Some g) ⊎ Has l slot g

pub removed_from : (t : Table) (xs : List Access) (g : Closed) → PermitsAll t xs → Removes xs g → WasAt t (placed xs) g
removed_from t [] g may gone = absurd gone
removed_from t (x ∷ xs) g may (inl now) = let e = emptied t x g may.0 now in record { slot = e.slot; inside = e.inside; was = inl e.was }
removed_from t (x ∷ xs) g may (inr later) =
    grind (arith, removed_from (table_with t x) xs g may.1 later, same_size, has_left, step_from, has_right)

-- the list of what was removed has exactly the removed files
pub contains_removed : (xs : List Access) {g : Closed} → Removes xs g → Contains (files_removed_in xs) g
contains_removed [] gone = absurd gone
contains_removed (x ∷ xs) {g} (inl now) = rw now (contains_head g (files_removed_in xs))
contains_removed (x ∷ xs) {g} (inr later) = Contains-append_right (option_to_list (file_removed_by x)) (files_removed_in xs) g (contains_removed xs later)

pub removes_contained : (xs : List Access) (g : Closed) → Contains (files_removed_in xs) g → Removes xs g
removes_contained [] g has = absurd (contains_none g has)
removes_contained (x ∷ xs) g has = either (file_removed_by x) refl (λ later. removes_contained xs g later) has
  where
    either : (found : Option Closed) → file_removed_by x ≡ found → (Contains (files_removed_in xs) g → Removes xs g)
        → Contains (option_to_list found ++ files_removed_in xs) g → (file_removed_by x ≡ Some g) ⊎ Removes xs g
    either None is more h = inr (more h)
    either (Some f) is more h =
        ⊎_elim (λ here. inl (is ∙ ap (λ y. Some y) (sym here))) (λ later. inr (more later)) (contains_cases f (files_removed_in xs) g h)
