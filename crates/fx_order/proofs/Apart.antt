-- Files that are equal, the same, and apart.
use Rattle.fx_order.proofs.Words.{sum_by-le, ◌≡◌, Bool, refl, ap, Decides, Closed, Mark, ◌≢◌, ℕ, suc, ◌+◌, ◌<◌, ◌≤◌, ◌==◌, cond, List, [], ◌∷◌, ◌++◌}
use Rattle.fx_order.proofs.Words.{length, take, drop, IsTrue, not-true, Decides-not, nil_from_length, ◌↔◌, subst, sym, ◌∙◌, arith, slice_index_or}
use Rattle.fx_order.proofs.Words.{IsPermutation, remove, Decides-eqb, append-nil, length-append, take_all, take_more, split_at, sum_by-IsPermutation}
use Rattle.fx_order.proofs.Words.{length_permutation, IsPermutation-more, sum_by-append, sum_by-cons, ◌⊎◌, inl, inr, ⊎_elim, Table, Permits}
use Rattle.fx_order.proofs.Words.{Contains-get_or, recursion_from_All, IsDistinct-cons, PermitsAll, table_with, table_after, file_removed_by, Access}
use Rattle.fx_order.proofs.Words.{files_removed_in, false, option_to_list, rules, Option, Some, None, option_eq}
use Rattle.std.specs.List.{IsDistinct}
use Rattle.fx_base.specs.contracts.mark.MarkPartialEq.TheImpl.{eq-value as eq_of_mark}
use Rattle.fx_base.specs.contracts.open_file.ClosedPartialEq.TheImpl.{eq-value as eq_of_file}
use Rattle.fx_order.proofs.Placed.{Has, Removes, emptied, has_either, has_left, has_right, left_from, placed, placed_by, removed_from}
use Rattle.fx_order.proofs.Placed.{removes_contained, step_from}

abbrev pub same_mark : Mark → Mark → Bool
same_mark = eq_of_mark.it

pub mark_Decides : (a b : Mark) → Decides (same_mark a b) (a ≡ b)
mark_Decides a b = search rules

abbrev pub same_file : Closed → Closed → Bool
same_file = eq_of_file.it

pub file_Decides : (a b : Closed) → Decides (same_file a b) (a ≡ b)
file_Decides a b = search rules

pub option_Decides : {X : Type 0} {E : X → X → Bool} → ((a b : X) → Decides (E a b) (a ≡ b)) → (a b : Option X) → Decides (option_eq E a b) (a ≡ b)
option_Decides each a b = grind arith

-- Lists with the same files: the number of times that a file is in each of them.

-- the number of times that a file is in a list
abbrev one_if_same : Closed → Closed → ℕ
one_if_same file x = cond (same_file file x) 1 0

-- if the file is next, it is one of those that are left
is_left : {files : List Closed} (done rest left : List Closed) {file : Closed} → IsPermutation files (done ++ left)
    → IsPermutation files (done ++ file ∷ rest) → ((i : ℕ) (d : Closed) → i < length left → slice_index_or left i d ≢ file) → ⊥
is_left {files} done rest left {file} one other none =
    let here : one_if_same file file ≡ 1 = ap (λ (b : Bool). cond b 1 0) ((file_Decides file file).1 refl) in
    let first = sum_by-IsPermutation (one_if_same file) files (done ++ left) one in
    let second = sum_by-IsPermutation (one_if_same file) files (done ++ file ∷ rest) other in
    let parts = sum_by-append (one_if_same file) done left in
    let others = sum_by-append (one_if_same file) done (file ∷ rest) in
    let head = sum_by-cons (one_if_same file) file rest in
    let nothing = sum_by-le (one_if_same file) 0 left (λ k d lt.
    rw (not-true _ ((Decides-not _ (file_Decides file (slice_index_or left k d))).1 (λ is. none k d lt (sym is)))) (omega arith)) in
    omega arith

-- the loop over the other list: a file that isn't left, one that is, and the end
module _ (files others left : List Closed) (i : ℕ) (so_far : IsPermutation files (take i others ++ left)) where
  pub none_left : (d : Closed) → i < length others
      → ((k : ℕ) (e : Closed) → k < length left → slice_index_or left k e ≢ slice_index_or others i d) → IsPermutation files others → ⊥
  none_left d within none same =
      is_left (take i others) (drop (suc i) others) left so_far (subst (IsPermutation files) (split_at others i d within) same) none

  pub one_more : (d : Closed) (j : ℕ) → i < length others → j < length left
      → slice_index_or left j (slice_index_or others i d) ≡ slice_index_or others i d
      → IsPermutation files (take (i + 1) others ++ remove left j)
  one_more d j within inside is =
      rw (take_more others i d within) (IsPermutation-more files (take i others) left j (slice_index_or others i d) inside (sym is) so_far)

  pub none_over : {n : ℕ} → length others ≤ i → n ≡ length left → IsTrue (n == 0) ↔ IsPermutation files others
  none_over {n} all count =
      let now : IsPermutation files (others ++ left) = rw (take_all i others all) at so_far in
      let long = length_permutation files (others ++ left) now in
      let parts = length-append others left in (
        λ yes. let none : n ≡ 0 = (Decides-eqb n 0).0 yes in
            subst (IsPermutation files) (append-nil others)
            (subst (λ (l : List Closed). IsPermutation files (others ++ l)) (nil_from_length left (omega arith)) now),
        λ same. (Decides-eqb n 0).1 (let short = length_permutation files others same in omega arith),
      )

-- If no mark is placed twice, and none that is in the table, each removed file isn't there
-- afterwards, and was removed once.

-- no mark is placed twice
abbrev pub PlacesOnce : List (ℕ × Closed) → Type 0
PlacesOnce [] = Unit {0}
PlacesOnce (p ∷ l) = PlacesOnce l × ((s : ℕ) (g : Closed) → Has l s g → p.1.mark ≢ g.mark)

pub once_after : (xs ys : List (ℕ × Closed)) → PlacesOnce (xs ++ ys) → PlacesOnce ys
once_after [] ys once = once
once_after (x ∷ xs) ys once = once_after xs ys once.0

pub once_between : (xs ys : List (ℕ × Closed)) (s o : ℕ) (f g : Closed) → PlacesOnce (xs ++ ys) → Has xs s f → Has ys o g → f.mark ≢ g.mark
once_between [] ys s o f g once first later same = absurd first
once_between (x ∷ xs) ys s o f g once (inl here) later same = once.1 o g (has_right xs ys o g later) ((λ i. (here i).1.mark) ∙ same)
once_between (x ∷ xs) ys s o f g once (inr first) later same = once_between xs ys s o f g once.0 first later same

-- lists in which no mark is placed twice, nor one of the first in the second
pub once_then : (xs ys : List (ℕ × Closed)) → PlacesOnce xs → PlacesOnce ys
    → ((s o : ℕ) (f g : Closed) → Has xs s f → Has ys o g → f.mark ≢ g.mark) → PlacesOnce (xs ++ ys)
once_then [] ys first second apart = second
once_then (x ∷ xs) ys first second apart = (
  once_then xs ys first.0 second (λ s o f g one. apart s o f g (inr one)),
  λ o g has. ⊎_elim (λ one. first.1 o g one) (λ later. apart x.0 o x.1 g (inl refl) later) (has_either xs ys o g has),
)

-- each file that was placed is such a one, and no mark was placed twice
abbrev pub Own : (Closed → Type 0) → List (ℕ × Closed) → Type 0
Own P l = ((s : ℕ) (f : Closed) → Has l s f → P f) × PlacesOnce l

pub own_none : {P : Closed → Type 0} → Own P []
own_none = (λ s f has. absurd has, tt)

pub own_one : {P : Closed → Type 0} {slot : ℕ} {file : Closed} → P file → Own P ((slot, file) ∷ [])
own_one {P} p = (λ s f has. ⊎_elim (λ here. subst P (λ i. (here i).1) p) (λ none. absurd none) has, (tt, λ s g none. absurd none))

pub own_weaker : {P Q : Closed → Type 0} (l : List (ℕ × Closed)) → ((f : Closed) → P f → Q f) → Own P l → Own Q l
own_weaker l weaker own = (λ s f has. weaker f (own.0 s f has), own.1)

pub own_both : {P Q R : Closed → Type 0} (xs ys : List (ℕ × Closed)) → ((f : Closed) → P f → R f) → ((f : Closed) → Q f → R f)
    → ((f g : Closed) → P f → Q g → f.mark ≢ g.mark) → Own P xs → Own Q ys → Own R (xs ++ ys)
own_both xs ys left right apart first second = grind (arith, has_either, once_then)

slot_of : {slot s : ℕ} {file f : Closed} → Has ((slot, file) ∷ []) s f → s ≡ slot
slot_of h1 = grind arith

-- an access places one file at most
one_placed : (x : Access) {s o : ℕ} (f g : Closed) → Has (placed_by x) s f → Has (placed_by x) o g → s ≡ o
one_placed x f g one other = grind (arith, slot_of)

-- no two slots have one mark, none of them has one that is to be placed, and that is placed once
pub record IsApart (t : Table) (l : List (ℕ × Closed)) : Type 0 where
  pub distinct : (s o : ℕ) (f g : Closed) → t.at s ≡ Some f → t.at o ≡ Some g → f.mark ≡ g.mark → s ≡ o
  pub unlike : (s o : ℕ) (f g : Closed) → t.at s ≡ Some f → Has l o g → f.mark ≢ g.mark
  pub once : PlacesOnce l

module _ (t : Table) (x : Access) (xs : List Access) (apart : IsApart t (placed_by x ++ placed xs)) where
  here_unlike : {s : ℕ} (o : ℕ) {f : Closed} (g : Closed) → t.at s ≡ Some f → Has (placed_by x) o g → f.mark ≢ g.mark
  here_unlike {s} o {f} g was new = apart.unlike s o f g was (has_left (placed_by x) (placed xs) o g new)

  later_unlike : {s : ℕ} (o : ℕ) {f : Closed} (g : Closed) → t.at s ≡ Some f → Has (placed xs) o g → f.mark ≢ g.mark
  later_unlike {s} o {f} g was new = apart.unlike s o f g was (has_right (placed_by x) (placed xs) o g new)

  -- it stays so after an access
  pub apart_then : IsApart (table_with t x) (placed xs)
  apart_then = record {
    distinct = λ s o f g is are same. ⊎_elim
        (λ was. ⊎_elim (λ were. apart.distinct s o f g was were same) (λ new. absurd (here_unlike o g was new same)) (step_from t x are))
        (λ new. ⊎_elim (λ were. absurd (here_unlike s f were new (sym same))) (λ newer. one_placed x f g new newer) (step_from t x are))
        (step_from t x is);
    unlike = λ s o f g is later. grind (arith, later_unlike, once_between, placed, step_from);
    once = once_after (placed_by x) (placed xs) apart.once;
  }

  -- the file that it removed is at no slot then, and isn't placed again
  gone : (g : Closed) → Permits t x → file_removed_by x ≡ Some g → (s : ℕ) (f : Closed) → ((table_with t x).at s ≡ Some f) ⊎ Has (placed xs) s f
      → g.mark ≢ f.mark
  gone g may is s f (inl now) =
      let e = emptied t x g may is in
      ⊎_elim
      (λ other same. other.0 (apart.distinct s e.slot f g other.1 e.was (sym same))) (λ new. here_unlike s f e.was new) (e.after s f now)
  gone g may is s f (inr later) = let e = emptied t x g may is in later_unlike s f e.was later

-- a removed file is at no slot afterwards
pub removed_is_gone : (t : Table) (xs : List Access) (g : Closed) → IsApart t (placed xs) → PermitsAll t xs → Removes xs g
    → (s : ℕ) (f : Closed) → (table_after t xs).at s ≡ Some f → g.mark ≢ f.mark
removed_is_gone t [] g apart may none s f at = absurd none
removed_is_gone t (x ∷ xs) g apart may (inl now) s f at = gone t x xs apart g may.0 now s f (left_from (table_with t x) xs s f at)
removed_is_gone t (x ∷ xs) g apart may (inr later) s f at = removed_is_gone (table_with t x) xs g (apart_then t x xs apart) may.1 later s f at

-- two files have one mark
abbrev pub alike : Closed → Closed → Bool
alike f g = same_mark f.mark g.mark

-- no mark is removed twice
pub removes_once : (t : Table) (xs : List Access) → IsApart t (placed xs) → PermitsAll t xs → IsDistinct alike (files_removed_in xs)
unfolding IsDistinct
removes_once t [] apart may = tt
removes_once t (x ∷ xs) apart may = first (file_removed_by x) refl (removes_once (table_with t x) xs (apart_then t x xs apart) may.1)
  where
    first : (found : Option Closed) → file_removed_by x ≡ found → IsDistinct alike (files_removed_in xs)
        → IsDistinct alike (option_to_list found ++ files_removed_in xs)
    first None now rest = rest
    first (Some f) now rest = IsDistinct-cons alike f (files_removed_in xs) (recursion_from_All (λ g. alike f g ≡ false) (files_removed_in xs) (λ k d lt.
        let g = slice_index_or (files_removed_in xs) k d in
        let w = removed_from (table_with t x) xs g may.1 (removes_contained xs g (Contains-get_or (files_removed_in xs) k d lt)) in
        not-true _ ((Decides-not _ (mark_Decides f.mark g.mark)).1 (gone t x xs apart f may.0 now w.slot g w.was)))) rest
