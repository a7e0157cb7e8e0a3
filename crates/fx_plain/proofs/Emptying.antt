-- The files of the slots are closed, one slot after another.
use Rattle.fx_plain.proofs.Words.{◌≡◌, ◌≢◌, ℕ, suc, ◌+◌, ◌-◌, ◌<◌, ◌≤◌, List, [], ◌∷◌, ◌++◌, length, length-append, replicate, sym, ap, ◌∙◌}
use Rattle.fx_plain.proofs.Words.{slice_index_or, slice_set, append_assoc, IsSome, arith, inl, inr, length-set, length-replicate, get_or_append_left}
use Rattle.fx_plain.proofs.Words.{cases_lt, get_or-eq_default, node_at, identity_in, Fresh, Gone, with_rest, Node, set-set, get_or-append-add}
use Rattle.fx_plain.proofs.Words.{set-append_left, get_or-replicate, get_or_default, zero, add-one, refl, Option, Some, None, option_to_list, File}
use Rattle.fx_plain.proofs.Words.{files_in_order, identities_of, AllPlaced, SameButPlaced, slot_at, file_at, file_named, nodes_without}
use Rattle.fx_plain.proofs.Words.{removed_count_of, At, sum_by, sum_by-set, identity_of}
use Rattle.fx_plain.proofs.Cells.{each_set, inside_of-At}
use Rattle.fx_plain.proofs.OwnNumbers.{IsLeft, left_without, named_same}

module _ {X : Type 0} (rest : X) (len : ℕ) (xs : List X) where
  pub length_with_rest : length xs ≤ len → length (with_rest rest len xs) ≡ len
  length_with_rest few = grind (arith, length-append, length-replicate)

  -- a written element is read as it was written
  pub read_written : {n : ℕ} (d : X) → n < length xs → slice_index_or (with_rest rest len xs) n d ≡ slice_index_or xs n d
  read_written {n} d inside = get_or_append_left xs (replicate (len - length xs) rest) d n inside

  -- after the written elements there is the rest
  pub read_rest : {n : ℕ} (d : X) → length xs ≤ n → n < len → slice_index_or (with_rest rest len xs) n d ≡ rest
  read_rest {n} d behind inside =
      let at : length xs + (n - length xs) ≡ n = omega arith in
      ap (λ (k : ℕ). slice_index_or (with_rest rest len xs) k d) (sym at)
      ∙ get_or-append-add xs (replicate (len - length xs) rest) (n - length xs) d
      ∙ get_or-replicate (len - length xs) (n - length xs) rest d (omega arith)

  -- a write of what was written is a write of the whole list
  pub with_rest_set : {n : ℕ} (x : X) → n < length xs → with_rest rest len (slice_set xs n x) ≡ slice_set (with_rest rest len xs) n x
  with_rest_set {n} x inside = grind (arith, length-set, set-append_left)

  -- one more of the rest may be written at any time
  pub with_rest_push : length xs < len → with_rest rest len (xs ++ rest ∷ []) ≡ with_rest rest len xs
  with_rest_push inside =
      let size : length (xs ++ rest ∷ []) ≡ length xs + 1 = length-append xs (rest ∷ []) in
      let same : suc (len - length (xs ++ rest ∷ [])) ≡ len - length xs = omega arith in
      let joined : with_rest rest len (xs ++ rest ∷ []) ≡ xs ++ replicate (suc (len - length (xs ++ rest ∷ []))) rest =
      append_assoc xs (rest ∷ []) (replicate (len - length (xs ++ rest ∷ [])) rest) in
      joined ∙ ap (λ (k : ℕ). xs ++ replicate k rest) same

-- an element that is neither the rest nor the default was written
inside_written : {X : Type 0} (rest d : X) {len : ℕ} (xs : List X) (n : ℕ) → length xs ≤ len → slice_index_or (with_rest rest len xs) n d ≢ rest
    → slice_index_or (with_rest rest len xs) n d ≢ d → n < length xs
inside_written rest d {len} xs n few no_rest no_default = grind (arith, read_rest, length_with_rest, get_or-eq_default)

-- a node with a file was written
pub written_inside : {len : ℕ} (xs : List Node) (n : ℕ) → length xs ≤ len → IsSome (identity_in (node_at (with_rest Fresh len xs) n)) → n < length xs
written_inside xs n few has = grind (arith, inside_written)

-- a write at a node with a file of what the node becomes is a write of the whole list
pub changed_over : (f : Node → Node) {len : ℕ} (xs : List Node) (n : ℕ) → length xs ≤ len → IsSome (identity_in (node_at (with_rest Fresh len xs) n))
    → with_rest Fresh len (slice_set (slice_set xs n Gone) n (f (node_at xs n)))
    ≡ slice_set (with_rest Fresh len xs) n (f (node_at (with_rest Fresh len xs) n))
changed_over f {len} xs n few has = grind (arith, written_inside, set-set, read_written, with_rest_set)

-- The files of the slots are closed, one slot after another.

-- more slots have no fewer files
pub files_more : (at : ℕ → Option File) (m n : ℕ) → m ≤ n → length (files_in_order at m) ≤ length (files_in_order at n)
files_more at m zero le = let none_is : m ≡ 0 = omega arith in rw none_is (omega arith)
files_more at m (suc n) le = elim (cases_lt m (suc n)) [
  | inl lt ↦ (let rest = files_more at m n (omega arith) in let both = length-append (files_in_order at n) (identities_of (at n)) in omega arith)
  | inr ge ↦ (let same : m ≡ suc n = omega arith in rw same (omega arith))
]

pub files_next : (at : ℕ → Option File) (n : ℕ) → files_in_order at (n + 1) ≡ files_in_order at n ++ identities_of (at n)
files_next at n = ap (files_in_order at) (add-one n)

pub listed : (found : Option File) → option_to_list (identity_of found) ≡ identities_of found
listed found = grind arith

-- the files of the first slots are out, and the others are where they were
pub record IsWorked (slots : List (Option ℕ)) (first nodes : List Node) (s : ℕ) : Type 0 where
  pub len : length nodes ≡ length first
  pub left : IsLeft slots first nodes s
  pub same : (number : ℕ) → SameButPlaced (node_at first number) (node_at nodes number)
  pub opened : sum_by removed_count_of nodes ≡ sum_by removed_count_of first

pub read_slot : (slots : List (Option ℕ)) (s : ℕ) {x : Option ℕ} → s < length slots → x ≡ slice_index_or slots s x → x ≡ slot_at slots s
read_slot slots s {x} inside read = read ∙ sym (get_or_default slots s None x inside)

module _ (slots : List (Option ℕ)) (first nodes : List Node) (s : ℕ) (placed : AllPlaced slots first) (left : IsLeft slots first nodes s) where
  named_is : (x : Option ℕ) → slot_at slots s ≡ x → file_named first x ≡ identity_of (file_at first x)
  named_is x is = grind arith

  -- the file that is taken is the one of the slot, and the one that is closed is the next in order
  pub next_taken : file_named nodes (slot_at slots s) ≡ identity_of (file_at first (slot_at slots s))
  next_taken = named_same slots first nodes s placed left ∙ named_is (slot_at slots s) refl

  worked_without : (x : Option ℕ) → slot_at slots s ≡ x → IsWorked slots first nodes s → IsWorked slots first (nodes_without nodes x) (s + 1)
  worked_without None is w = record { len = w.len; left = λ u m le at. w.left u m (omega arith) at; same = w.same; opened = w.opened }
  worked_without (Some m) is w =
      let there = placed s m is in let here : node_at nodes m ≡ At s there.0 = left s m (omega arith) is ∙ there.1 in
      let inside = inside_of-At nodes m here in let changed = sum_by-set removed_count_of nodes m Gone Gone inside in
      let was : removed_count_of (node_at nodes m) ≡ 0 = ap removed_count_of here in let before = w.opened in record {
        len = length-set nodes m Gone ∙ w.len;
        left = left_without slots first nodes s placed left (Some m) is;
        same = λ n. each_set (λ k x. SameButPlaced (node_at first k) x) nodes m Gone Gone inside (grind (arith, there.1)) n (λ _. w.same n);
        opened = omega arith;
      }

  -- one slot more was done
  pub worked_next : IsWorked slots first nodes s → IsWorked slots first (nodes_without nodes (slot_at slots s)) (s + 1)
  worked_next = worked_without (slot_at slots s) refl
