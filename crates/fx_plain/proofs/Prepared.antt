-- Prepared tables, in which passes begin, and settled ones, which stay at rest.
use Rattle.fx_plain.proofs.Words.{◌≡◌, ℕ, ◌&&◌, not, nat_lt, ap, subst, sym, ◌∙◌, None, Some, File, Option, IsSettled, State, opening, refl}
use Rattle.fx_plain.proofs.Words.{file_numbered, identity_of, arith, ◌<◌, ◌≤◌, ◌^◌, true, false, List, length, replicate, slice_index}
use Rattle.fx_plain.proofs.Words.{length-replicate, get_or-eq_default, Closed, Contents, IsTable, IsCounted, state_of, slot_at, node_at, file_at}
use Rattle.fx_plain.proofs.Words.{removed_at, is_fresh, is_retired, IsRenumbered, IsVacant, opening_slot, sum, removed_count_of, Fresh, At, Gone}
use Rattle.fx_plain.proofs.Words.{Node, lt-ltb, le-ltb, ◌≢◌, zero, suc, ◌+◌, [], ◌∷◌, if◌then◌else◌, Allows, AllowsAll, after, state_after}
use Rattle.fx_plain.proofs.Words.{changed_at, Event, Action, IsLegal, IsStart, false_from_ne_true}
use Rattle.std.proofs.lemmas.Grind.{common_steps}
use Rattle.fx_plain.proofs.Cells.{inside_of, read_default, by_equality, named, named_same, sum_below, sum_grows}
use Rattle.fx_plain.proofs.Settled.{no_holds, none_removed, quiet_is, sum_of_nothings, sum_by-replicate}
use Rattle.fx_plain.specs.Reopening.{IsTableAtRest}
use Rattle.fx_plain.proofs.LawHolds.{placed_one, tally, tally_start, tally_all}

-- a file that is numbered anew: its number is its slot's, and it is the file that it was
pub numbered_anew : (x : Option File) (slot : ℕ) (f : File) → file_numbered x slot ≡ Some f → f.number ≡ slot
numbered_anew x slot f is = grind arith

pub same_identity : (x : Option File) (slot : ℕ) → identity_of (file_numbered x slot) ≡ identity_of x
same_identity x slot = grind arith

-- the laws of histories speak from there
pub opening_is_start : (st : State) (numbers : ℕ) → IsStart (opening st numbers)
opening_is_start st numbers = grind (arith, common_steps)

pub settled_at_opening : (st new : State) (numbers : ℕ) → new ≡ opening st numbers → IsSettled new
settled_at_opening st new numbers is = subst IsSettled (sym is) (record { unheld = λ _. refl; closed = λ _. refl })

pub opens_alike : (one other : State) → one.size ≡ other.size → one.range ≡ other.range
    → ((slot : ℕ) → identity_of (one.at slot) ≡ identity_of (other.at slot)) → (numbers : ℕ) → opening one numbers ≡ opening other numbers
opens_alike one other size range files numbers = grind arith

-- The state of a table that was prepared.
opening_own : (slot : ℕ) {number : ℕ} (x : Option ℕ) → opening_slot x slot ≡ Some number → number ≡ slot
opening_own slot x is = grind arith

module _ {c : Contents} {slots : List (Option ℕ)} {nodes : List Node} {numbers : ℕ} (t : IsTable c) (enough : length c.slots ≤ numbers)
    (few : numbers < 2 ^ 32) (r : IsRenumbered c.slots c.nodes slots nodes numbers) {holds : List ℕ} (unheld : holds ≡ replicate numbers 0) where
  abbrev pub prepared : Contents
  prepared = record { slots = slots; range = c.range; nodes = nodes; holds = holds; numbers = numbers }

  -- a property of each kind of node holds for each node
  each_node : (P : ℕ → Node → Type 0) → ((n : ℕ) (node : Node) → n < length c.slots → IsVacant node → P n node)
      → ((n : ℕ) → length c.slots ≤ n → n < numbers → P n Fresh) → ((n : ℕ) → numbers ≤ n → P n Gone) → (n : ℕ) → P n (node_at nodes n)
  each_node P low mid high n = grind (arith, get_or-eq_default)

  none_waits : (n : ℕ) → removed_at n (node_at nodes n) ≡ None
  none_waits = each_node (λ n node. removed_at n node ≡ None)
      (λ n node lt vacant. (quiet_is node vacant.none_removed).0 n) (λ n ge lt. refl) (λ n ge. refl)

  fresh_is : (n : ℕ) → is_fresh (node_at nodes n) ≡ (not (nat_lt n (length c.slots)) && nat_lt n numbers)
  fresh_is = each_node (λ n node. is_fresh node ≡ (not (nat_lt n (length c.slots)) && nat_lt n numbers))
      (λ n node lt vacant. rw (lt-ltb n (length c.slots) lt) vacant.used)
      (λ n ge lt. rw (le-ltb n (length c.slots) ge, lt-ltb n numbers lt) refl)
      (λ n ge. let past : length c.slots ≤ n = omega arith in rw (le-ltb n (length c.slots) past, le-ltb n numbers ge) refl)

  at_is : (u : ℕ) → file_at nodes (slot_at slots u) ≡ file_numbered (file_at c.nodes (slot_at c.slots u)) u
  at_is u = grind (arith, get_or-eq_default)

  no_hold : (n : ℕ) → slice_index holds n ≡ 0
  no_hold n = rw unheld (read_default numbers n 0)

  pub state_of-fields : state_of prepared ≡ opening (state_of c) numbers
  state_of-fields = grind (arith, at_is, none_waits, no_hold, fresh_is)

  named_placed : {u k : ℕ} → u < length c.slots → (x : Option ℕ) → slot_at c.slots u ≡ x → opening_slot x u ≡ Some k
      → (file : Closed) × (node_at nodes k ≡ At u file)
  named_placed inside x is same = grind arith

  slot_inside : (u : ℕ) {k : ℕ} → slot_at slots u ≡ Some k → u < length c.slots
  slot_inside u {k} is = grind (arith, inside_of)

  pub own_number : (u : ℕ) {k : ℕ} → slot_at slots u ≡ Some k → k ≡ u
  own_number u is = opening_own u (slot_at c.slots u) (sym (r.files.named u (slot_inside u is)) ∙ is)

  prepared_keeps : IsTable prepared
  prepared_keeps = record {
    own = λ u k is lt. own_number u is;
    used = λ k lt. grind (arith, r.files.same_size, fresh_is k);
    few_slots = let f = t.few_slots in let same = r.files.same_size in omega arith;
    range_inside = let inside = t.range_inside in let same = r.files.same_size in omega arith;
    few_nodes = let len = r.size in omega arith;
    same_numbers = ap (length {A = ℕ}) unheld ∙ length-replicate numbers 0 ∙ sym r.size;
    placed = λ u k is. let inside = slot_inside u is in named_placed inside (slot_at c.slots u) refl (sym (r.files.named u inside) ∙ is);
    held = each_node (λ n node. is_retired node ≡ true → 0 < slice_index holds n)
        (λ n node lt vacant is. let e : false ≡ true = sym (quiet_is node vacant.none_removed).2 ∙ is in cc) (λ n ge lt is. cc) (λ n ge is. cc);
  }

  pub fields_keep : {full held removed : ℕ} → IsCounted c full held removed → IsSettled (state_of c)
      → IsTable prepared × IsCounted prepared full held removed
  fields_keep k settled = (
    prepared_keeps,
    record {
      full_slots = k.full_slots ∙ sym r.files.same_full;
      all_holds = no_holds k settled ∙ sym (ap sum unheld ∙ sum_by-replicate (λ n. n) numbers 0 refl);
      small_holds = λ n. let z = no_hold n in omega arith;
      all_removed = none_removed k settled ∙ sym (sum_of_nothings removed_count_of nodes Gone
          (each_node (λ n node. removed_count_of node ≡ 0) (λ n node lt vacant. vacant.none_removed) (λ n ge lt. refl) (λ n ge. refl)));
    },
  )

-- A settled table is at rest, wherever its history has led to.

-- two terms of a sum
two_terms : (f : ℕ → ℕ) (n : ℕ) {j k : ℕ} → j ≢ k → j < n → k < n → f j + f k ≤ sum_below f n
two_terms f zero apart below_j below_k = absurd (omega arith)
two_terms f (suc n) {j} {k} apart below_j below_k = by_equality j n (λ _. f j + f k ≤ sum_below f (suc n))
    (λ last_j. let rest = sum_grows f (suc k) n (omega arith) in let e = ap f last_j in omega arith)
    (λ other_j. by_equality k n (λ _. f j + f k ≤ sum_below f (suc n))
    (λ last_k. let rest = sum_grows f (suc j) n (omega arith) in let e = ap f last_k in omega arith)
    (λ other_k. let rest = two_terms f n apart (omega arith) (omega arith) in omega arith))

-- a settled state without two uses of a number
begins_by_tally : {st : State} → ((n : ℕ) → tally n st ≤ 1) → IsSettled st → IsStart st
begins_by_tally {st} few settled = record {
  settled = settled;
  distinct = λ slot other f g below below_other is is_other same. by_equality slot other (λ _. slot ≡ other) (λ one. one) (λ apart.
      let here : named f.number (st.at slot) ≡ 1 = ap (named f.number) is ∙ named_same f f.number refl in
      let there : named f.number (st.at other) ≡ 1 = ap (named f.number) is_other ∙ named_same g f.number (sym same) in
      let both = two_terms (λ s. named f.number (st.at s)) st.size apart below below_other in
      let one = few f.number in absurd (omega arith));
  used = λ slot f below is.
      grind (arith, false_from_ne_true, st.at slot, named f.number, named_same f f.number refl, placed_one f.number st.at slot st.size below);
}

-- no file is past the slots
abbrev pub HasNonePast : State → Type 0
HasNonePast st = (slot : ℕ) → st.size ≤ slot → st.at slot ≡ None

none_past : (st : State) {slot : ℕ} (x : Option File) → slot < st.size → HasNonePast st → (u : ℕ) → st.size ≤ u → changed_at st.at slot x u ≡ None
none_past st {slot} x lt none u le = by_equality u slot (λ b. (if b then x else st.at u) ≡ None) (λ same. absurd (omega arith)) (λ _. none u le)

inside_after : (st : State) (a : Action) → Allows st a → HasNonePast st → HasNonePast (after st a)
inside_after st a may none = grind (arith, none_past)

pub inside_behind : (start : State) (h : List Action) → AllowsAll start h → HasNonePast start → HasNonePast (state_after start h)
inside_behind start [] may none = none
inside_behind start (a ∷ h) may none = inside_after (state_after start h) a may.1 (inside_behind start h may.0 none)

pub stays_at_rest : (start end : State) (h : List Event) → IsTableAtRest start → IsLegal start h end → IsSettled end → IsTableAtRest end
stays_at_rest start end h rest legal settled = grind (arith, begins_by_tally, tally_start, tally_all, inside_behind)

pub opens_inside : (plain : Contents) (numbers : ℕ) → HasNonePast (opening (state_of plain) numbers)
opens_inside plain numbers slot le = ap (λ (x : Option ℕ). file_numbered (file_at plain.nodes x) slot) (get_or-eq_default plain.slots None le)

pub opening_is_at_rest : (plain : Contents) (numbers : ℕ) → IsTableAtRest (opening (state_of plain) numbers)
opening_is_at_rest plain numbers = record { start = opening_is_start (state_of plain) numbers; inside = opens_inside plain numbers }
