-- Two nodes change where they are: one of a stock goes to a slot, and the one that the slot's word
-- named takes its place in the stock.
use Rattle.fx_lasting.proofs.{◌≡◌, ◌≢◌, ℕ, ◌+◌, ◌-◌, ◌<◌, List, Option, set, length-set, sym, refl, ap, ◌∙◌, subst, arith, some, some-injective}
use Rattle.fx_lasting.proofs.{get_elem?, dite, ℕ_discrete, set_here, set_else, stands_at, slots_of, nodes_of, name_in, changed_at, changed_here}
use Rattle.fx_lasting.proofs.{changed_else, Whereabouts, at_slot, in_stock, IsInStock, NamesItsNode, StockAgrees, NamesANode, Bool, Survey, Closed}
use Rattle.fx_lasting.proofs.{Action, IsHistory, part_of_pass, map, ◌++◌, pass_event, IsInside, Stepped, as_stocked, as_swapped, first_log, Log}
use Rattle.fx_lasting.proofs.{Grows, Turn, After, slot_word, its_stock, in_its_stock, tells_as, w}

-- what the word of a slot names is a node of the table
pub names_a_node : (turn : Turn) {s : ℕ} → s < slots_of turn.v.start → NamesANode turn.v.start (slot_word turn.st.words s)
names_a_node turn {s} inside = let o = turn.r.nodes.named s inside in let a = o.named in let b = o.inside in ((λ bad. omega (arith, bad, a)), omega arith)

-- each node is named by one slot or in one stock still, if the slot has this word
pub record StaysNamed (turn : Turn) (s word : ℕ) (where_is' : ℕ → Whereabouts) (stock' : List ℕ) : Type 0 where
  pub slot : NamesItsNode turn.v.start where_is' s word
  pub other_slots : (i m : ℕ) → i ≢ s → turn.r.nodes.where_is m ≡ at_slot i → where_is' m ≡ at_slot i
  pub stock : StockAgrees turn.v.start where_is' turn.x.number stock'
  pub other_stocks : (m q e : ℕ) → q ≢ turn.x.number → turn.r.nodes.where_is m ≡ in_stock q e → where_is' m ≡ in_stock q e

-- the word names the node that it named
pub names_same : (turn : Turn) {s : ℕ} → s < slots_of turn.v.start → (word : ℕ) → name_in word ≡ name_in (slot_word turn.st.words s)
    → StaysNamed turn s word turn.r.nodes.where_is turn.x.stock
names_same turn {s} inside word same = let o = turn.r.nodes.named s inside in record {
  slot = record { node = o.node; named = same ∙ o.named; inside = o.inside; here = o.here };
  other_slots = λ i m other at. at;
  stock = its_stock turn;
  other_stocks = λ m q e other at. at;
}

module _ (turn : Turn) (s : ℕ) (inside : s < slots_of turn.v.start) (n : ℕ) (stocked : IsInStock turn.x.stock n) where
  open turn use {st, v, r, id, x, here, one}

  abbrev pub entry : ℕ
  entry = stocked.0

  -- the node that the slot's word named
  abbrev pub other : ℕ
  other = name_in (slot_word st.words s) - 1

  other_inside : other < nodes_of v.start
  other_inside = (names_a_node turn inside).1

  other_here : r.nodes.where_is other ≡ at_slot s
  other_here = grind (arith, at_slot)

  its_place : (n < nodes_of v.start) × (r.nodes.where_is n ≡ in_stock x.number entry)
  its_place = in_its_stock turn stocked

  apart : n ≢ other
  apart same = let bad : in_stock x.number entry ≡ at_slot s = sym its_place.1 ∙ (ap r.nodes.where_is same ∙ other_here) in cc bad

  abbrev pub where_moved : ℕ → Whereabouts
  where_moved = changed_at (changed_at r.nodes.where_is n (at_slot s)) other (in_stock x.number entry)

  abbrev pub stock_moved : List ℕ
  stock_moved = set x.stock entry other

  moved_other : where_moved other ≡ in_stock x.number entry
  moved_other = changed_here (changed_at r.nodes.where_is n (at_slot s)) other (in_stock x.number entry) other refl

  -- each other node is where it was
  moved_else : (m : ℕ) → m ≢ n → m ≢ other → where_moved m ≡ r.nodes.where_is m
  moved_else m a b = grind (arith, changed_else, at_slot)

  moved_entry : (e m : ℕ) → get_elem? stock_moved e ≡ some m → (m < nodes_of v.start) × (where_moved m ≡ in_stock x.number e)
  moved_entry e m is = dite (ℕ_discrete e entry)
      (λ same. let here : get_elem? stock_moved entry ≡ some other = set_here x.stock entry other (stands_at x.stock entry n stocked.1).0 in
      let z : other ≡ m = some-injective other m (sym here ∙ (ap (get_elem? stock_moved) (sym same) ∙ is)) in
      (subst (λ (k : ℕ). k < nodes_of v.start) z other_inside, ap where_moved (sym z) ∙ (moved_other ∙ ap (in_stock x.number) (sym same))))
      (λ away. let was : get_elem? x.stock e ≡ some m = sym (set_else x.stock entry e other away) ∙ is in
      let at = its_stock turn in (
        at.its.inside e m was,
        moved_else m
            (λ same. let bad : in_stock x.number entry ≡ in_stock x.number e = sym its_place.1 ∙ (ap r.nodes.where_is (sym same) ∙ at.here e m was) in
            let z : entry ≡ e = cc bad in away (sym z))
            (λ same. let bad : at_slot s ≡ in_stock x.number e = sym other_here ∙ (ap r.nodes.where_is (sym same) ∙ at.here e m was) in cc bad) ∙ at.here e m was,
      ))

  moved_stock : StockAgrees v.start where_moved x.number stock_moved
  moved_stock = record {
    its = record {
      count = length-set x.stock entry other ∙ (its_stock turn).its.count;
      inside = λ e m is. (moved_entry e m is).0;
    };
    here = λ e m is. (moved_entry e m is).1;
  }

  -- the slot's new word names the node of the stock
  pub names_moved : (word : ℕ) → name_in word ≡ n + 1 → StaysNamed turn s word where_moved stock_moved
  names_moved word is = grind (arith, its_place, changed_else, at_slot, apart, changed_here, moved_else, other_here, moved_stock)

  -- the node is at one entry alone
  one_entry : (e : ℕ) → get_elem? x.stock e ≡ some n → entry ≡ e
  one_entry e is = let same : in_stock x.number entry ≡ in_stock x.number e = sym its_place.1 ∙ (its_stock turn).here e n is in cc same

  -- the effect of the step on a pass that had the node at this entry
  pub tells_swapped : (a : After turn) → ◌≡◌ {A = Bool × Survey × List ℕ} (a.listed, a.asked, a.stock) (x.listed, x.asked, stock_moved)
      → (carried homes : List (ℕ × Option Closed)) (actions : List Action) → Grows x.number r.history a.front → IsHistory v.start a.front
      → part_of_pass x.number a.front ≡ map (pass_event x) actions ++ part_of_pass x.number r.history → IsInside v.start a.work
      → (e : ℕ) → get_elem? (first_log v.logs).stock e ≡ some n
      → Stepped (as_swapped e other (v, carried)) actions a.work a.glance a.change (w turn a, homes)
  tells_swapped a same carried homes actions grows legal own knows e is =
      subst (λ (z : List ℕ × ℕ). Stepped (as_stocked (set z.0 z.1 other) (v, carried)) actions a.work a.glance a.change (w turn a, homes))
      (λ i. (sym same_stock i, one_entry e (ap (λ (l : List ℕ). get_elem? l e) (sym same_stock) ∙ is) i))
      (tells_as turn a (first_log v.logs).listed (first_log v.logs).asked stock_moved
      (subst (λ (l : List Log). ◌≡◌ {A = Bool × Survey × List ℕ} (a.listed, a.asked, a.stock) ((first_log l).listed, (first_log l).asked, stock_moved)) (sym one) same)
      carried homes actions grows legal own knows)
    where
      same_stock : (first_log v.logs).stock ≡ x.stock
      same_stock = ap (λ (l : List Log). (first_log l).stock) one
