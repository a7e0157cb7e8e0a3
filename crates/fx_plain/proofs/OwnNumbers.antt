-- Each file moves to the node of its slot's number, one slot after another, and slots outside the
-- span have such numbers.
use Rattle.fx_plain.proofs.Words.{◌≡◌, ◌≢◌, ℕ, ◌<◌, ◌≤◌, List, length, sym, ◌∙◌, arith, slice_set, Option, Some, None, length-set, get_or-set_other}
use Rattle.fx_plain.proofs.Words.{slot_at, SlotSpan, IsOutside, HaveOwnOutside, ◌+◌, [], ◌∷◌, ◌++◌, refl, set-set, get_or_append_left, Closed}
use Rattle.fx_plain.proofs.Words.{AllPlaced, IsFiled, subst, node_at, file_named, opening_slot, moved_node, nodes_without, file_count_of}
use Rattle.fx_plain.proofs.Words.{At, Gone, sum_by, Node, sum_by-set, set-get_or, HaveOwnNumbers}
use Rattle.fx_plain.proofs.Cells.{each_set, inside_of-At}
use Rattle.std.proofs.Math.Seq.{get_or-append_seam}

module _ (slots : List (Option ℕ)) {slot : ℕ} (x : Option ℕ) (inside : slot < length slots) where
  -- in a span that has the slot now
  pub own_in_wider : {old : SlotSpan} (new : SlotSpan) → HaveOwnOutside slots old → ((size : ℕ) → old.end ≤ size → slot < size → new.end ≤ size)
      → ((other : ℕ) → IsOutside new other → (other ≢ slot) × IsOutside old other) → HaveOwnOutside (slice_set slots slot x) new
  own_in_wider new own wide apart = record {
    inside = let few = wide (length slots) own.inside inside in let len = length-set slots slot x in omega arith;
    own = λ u n at out. let o = apart u out in own.own u n (sym (get_or-set_other slots slot u x None o.0) ∙ at) o.1;
  }

  -- in the same one, where the slot is empty from now on, or has a file of its own number
  pub own_as_before : {span : SlotSpan} → ((n : ℕ) → x ≡ Some n → n ≡ slot) → HaveOwnOutside slots span → HaveOwnOutside (slice_set slots slot x) span
  own_as_before mine own = record {
    inside = let few = own.inside in let len = length-set slots slot x in omega arith;
    own = λ u n at out. each_set (λ k y. y ≡ Some n → n ≡ k) slots slot x None inside (mine n) u (λ other at. own.own u n at out) at;
  }

-- Each file moves to the node of its slot's number, one slot after another.
file_named_same : (old new : List Node) (x : Option ℕ) → ((n : ℕ) → x ≡ Some n → node_at new n ≡ node_at old n) → file_named new x ≡ file_named old x
file_named_same old new x same = grind arith

-- the files of the slots from `s` on are as they were
abbrev pub IsLeft : List (Option ℕ) → List Node → List Node → ℕ → Type 0
IsLeft slots first nodes s = (u number : ℕ) → s ≤ u → slot_at slots u ≡ Some number → node_at nodes number ≡ node_at first number

module _ (slots : List (Option ℕ)) (first nodes : List Node) (s : ℕ) (placed : AllPlaced slots first) (left : IsLeft slots first nodes s) where
  pub named_same : file_named nodes (slot_at slots s) ≡ file_named first (slot_at slots s)
  named_same = file_named_same first nodes (slot_at slots s) (λ n is. left s n (omega arith) is)

  -- one slot more was done
  pub left_without : (x : Option ℕ) → slot_at slots s ≡ x → IsLeft slots first (nodes_without nodes x) (s + 1)
  left_without None is = λ u number le at. left u number (omega arith) at
  left_without (Some m) is = grind (arith, get_or-set_other)

pub length-without : (nodes : List Node) (x : Option ℕ) → length (nodes_without nodes x) ≡ length nodes
length-without nodes None = refl
length-without nodes (Some n) = length-set nodes n Gone

same_filled : (x : Option ℕ) (s : ℕ) → file_count_of (opening_slot x s) ≡ file_count_of x
same_filled x s = grind arith

-- the slots before s name their own numbers, and the others are as they were
pub record IsOpened (first slots : List (Option ℕ)) (s : ℕ) : Type 0 where
  pub done : (u : ℕ) → u < s → slot_at slots u ≡ opening_slot (slot_at first u) u
  pub rest : (u : ℕ) → s ≤ u → slot_at slots u ≡ slot_at first u
  pub full : sum_by file_count_of slots ≡ sum_by file_count_of first

pub opened_next : {first slots : List (Option ℕ)} {s : ℕ} → IsOpened first slots s → s < length slots
    → IsOpened first (slice_set slots s (opening_slot (slot_at slots s) s)) (s + 1)
opened_next {first} {slots} {s} before inside =
    let changed = sum_by-set file_count_of slots s (opening_slot (slot_at slots s) s) None inside in
    let same = same_filled (slot_at slots s) s in let full = before.full in record {
      done = λ u lt. each_set (λ k x. x ≡ opening_slot (slot_at first k) k) slots s (opening_slot (slot_at slots s) s) None inside
          (rw (before.rest s (omega arith)) refl) u (λ other. before.done u (omega arith));
      rest = λ u le. let apart : u ≢ s = omega arith in
          get_or-set_other slots s u (opening_slot (slot_at slots s) s) None apart ∙ before.rest u (omega arith);
      full = omega arith;
    }

-- one node more was appended
pub moved_next : (moved : List Node) {s : ℕ} {node : Node} (expected : ℕ → Node) → length moved ≡ s → node ≡ expected s
    → ((u : ℕ) → u < s → node_at moved u ≡ expected u) → {u : ℕ} → u < s + 1 → node_at (moved ++ node ∷ []) u ≡ expected u
moved_next moved {s} {node} expected len is before {u} lt = grind (arith, get_or-append_seam, get_or_append_left)

-- one slot more was done in the list of nodes that is there
module _ (slots : List (Option ℕ)) (first nodes : List Node) {s : ℕ} (placed : AllPlaced slots first) (left : IsLeft slots first nodes s)
    (own : HaveOwnNumbers slots) (inside : s < length slots) where
  pub left_settled : (v : Node) → IsLeft slots first (slice_set (nodes_without nodes (slot_at slots s)) s v) (s + 1)
  left_settled v = grind (arith, get_or-set_other)

  earlier_stays : (x : Option ℕ) → slot_at slots s ≡ x → (u : ℕ) → u < s → node_at (nodes_without nodes x) u ≡ node_at nodes u
  earlier_stays None is u lt = refl
  earlier_stays (Some n) is u lt = grind (arith, get_or-set_other)

  -- a property of the nodes of the slots before `s`, and of the node of `s`, holds for each of them
  pub each_settled : (P : ℕ → Node → Type 0) (v : Node) → s < length nodes → P s v → ((u : ℕ) → u < s → P u (node_at nodes u))
      → {u : ℕ} → u < s + 1 → P u (node_at (slice_set (nodes_without nodes (slot_at slots s)) s v) u)
  each_settled P v room here before {u} lt = each_set P (nodes_without nodes (slot_at slots s)) s v Gone
      (let len = length-without nodes (slot_at slots s) in omega arith) here u
      (λ other. subst (P u) (sym (earlier_stays (slot_at slots s) refl u (omega arith))) (before u (omega arith)))

  -- the nodes of the slots after `s` stay
  pub later_stays : (v : Node) (x : Option ℕ) → slot_at slots s ≡ x → {u : ℕ} → s + 1 ≤ u → u < length slots
      → node_at (slice_set (nodes_without nodes x) s v) u ≡ node_at nodes u
  later_stays v None is {u} le lt = get_or-set_other nodes s u v Gone (λ (same : u ≡ s). absurd (omega arith))
  later_stays v (Some n) is {u} le lt = grind (arith, get_or-set_other)

-- a slot that has its own number already
module _ (slots : List (Option ℕ)) (nodes : List Node) {s : ℕ} (at : slot_at slots s ≡ Some s) where
  pub node_settled : {file : Closed} → node_at nodes s ≡ At s file
      → nodes ≡ slice_set (nodes_without nodes (slot_at slots s)) s (moved_node (file_named nodes (slot_at slots s)) s)
  node_settled named = rw (at, set-set, named) (sym (rw named at (set-get_or nodes s Gone)))

-- the node that a slot's file moved to
pub filed_by_move : (slots : List (Option ℕ)) (nodes : List Node) (s : ℕ) {node : Node} → node ≡ moved_node (file_named nodes (slot_at slots s)) s
    → IsFiled slots nodes s node
filed_by_move slots nodes s is = grind arith

-- files in nodes, after more nodes were added
module _ (slots : List (Option ℕ)) (old new : List Node) (placed : AllPlaced slots old)
    (same : (n : ℕ) → n < length old → node_at new n ≡ node_at old n) where
  named_before : (u : ℕ) {n : ℕ} → slot_at slots u ≡ Some n → node_at new n ≡ node_at old n
  named_before u {n} at = let there = placed u n at in same n (inside_of-At old n there.1)

  pub still_placed : AllPlaced slots new
  still_placed u n at = let there = placed u n at in (there.0, named_before u at ∙ there.1)
