-- A table that is opened keeps the rule.
use Rattle.fx_lasting.proofs.{◌≡◌, ℕ, zero, suc, ◌+◌, ◌<◌, ◌≤◌, Bool, nat_lt, cond, List, [], ◌∷◌, sym, refl, ap, ◌∙◌, subst, arith, lt-ltb}
use Rattle.fx_lasting.proofs.{le-ltb, Option, None, slice_index, dite, some, some-injective, some-ne-none, dec_le, get_elem?, Closed, File, State}
use Rattle.fx_lasting.proofs.{SlotAgrees, LogAgrees, ViewAgrees, Agrees, new_logs, word_of, slot_place, slots_of, nodes_of}
use Rattle.fx_lasting.proofs.{state_after_all, new_log, Phase, free, Log, Start, View, Idle, Nothing, length-map, at_map, first_view, contains_map}
use Rattle.fx_lasting.proofs.{once_is, counted_once, range_with_len, one_if, ne_eqb, false, Contains, eqb, sum_of, OpensWith, bit_here}
use Rattle.fx_lasting.proofs.{node_of_number, bit_of, IsListedIn, bit_at-zero, not, opening, untouched, list_place, ◌-◌, ◌*◌, ◌/◌, ◌%◌, Whereabouts}
use Rattle.fx_lasting.proofs.{at_slot, in_stock, IsStockOf, StockAgrees, name_in, empty_name_made, empty_file_made, empty_takes_made}
use Rattle.fx_lasting.proofs.{stock_start, stock_for, first_stock, mul-le-mul_right, length-range_with_len, div-mul-add, mod-mul-add, suc-mul}
use Rattle.fx_lasting.proofs.{HasLaws, seats, full_in, if_full, file_numbered, read_default, range_at_start, group_place, group_start, group_len}
use Rattle.fx_lasting.proofs.{question_place, tally_none, tally_same, counts_alone, few_groups, seats_open}
use Rattle.fx_plain.specs.Contents.{file_at}

pub laws : HasLaws seats
laws = grind arith

-- where each node is at first
abbrev first_where : Start → ℕ → Whereabouts
first_where k n = cond (nat_lt n (slots_of k)) (at_slot n) (in_stock ((n - slots_of k) / k.passes + 1) ((n - slots_of k) % k.passes))

-- the numbers of a list of numbers in a row
in_row : (a n e m : ℕ) → get_elem? (range_with_len a n) e ≡ some m → (e < n) × (m ≡ a + e)
in_row a zero e m is = absurd (some-ne-none m (sym is))
in_row a (suc n) zero m is = let e = some-injective a m is in (omega arith, omega arith)
in_row a (suc n) (suc e) m is = let z = in_row (a + 1) n e m is in (let l = z.0 in omega arith, let l = z.1 in omega arith)

-- The first stock of a pass
module _ (k : Start) {p : ℕ} (low : 0 < p) (high : p ≤ k.passes) where
  entry_at : (e n : ℕ) → get_elem? (first_stock k p) e ≡ some n → (n < nodes_of k) × (first_where k n ≡ in_stock p e)
  entry_at e n is = dite (dec_le p k.installing) (λ installs. let long : stock_for k.passes k.installing p ≡ k.passes = ap (λ (b : Bool). cond b 0 k.passes) (le-ltb k.installing p installs) in
      let z = in_row (stock_start (slots_of k) k.passes p) k.passes e n (subst (λ (m : ℕ). get_elem? (range_with_len (stock_start (slots_of k) k.passes p) m) e ≡ some n) long is) in
      let row = suc-mul (p - 1) k.passes in
      let same : suc (p - 1) ≡ p = omega (arith, low) in let same' = ap (λ (q : ℕ). q * k.passes) same in
      let m : p * k.passes ≤ k.installing * k.passes = mul-le-mul_right k.passes installs in
      let few = z.0 in let at = z.1 in
      let off : n - slots_of k ≡ (p - 1) * k.passes + e = omega arith in
      let big : slots_of k ≤ n = omega arith in (
        omega arith,
        ap (λ (b : Bool). cond b (at_slot n) (in_stock ((n - slots_of k) / k.passes + 1) ((n - slots_of k) % k.passes))) (le-ltb n (slots_of k) big)
            ∙ (λ i. in_stock ((ap (λ (d : ℕ). d / k.passes) off ∙ div-mul-add (p - 1) k.passes e few) i + 1) ((ap (λ (d : ℕ). d % k.passes) off ∙ mod-mul-add (p - 1) k.passes e few) i))
            ∙ ap (λ (q : ℕ). in_stock q e) (let y : p - 1 + 1 ≡ p = omega (arith, low) in y),
      ))
      (λ not. let none : stock_for k.passes k.installing p ≡ 0 = ap (λ (b : Bool). cond b 0 k.passes) (lt-ltb k.installing p (omega (arith, not))) in
      absurd (some-ne-none n (sym (subst (λ (m : ℕ). get_elem? (range_with_len (stock_start (slots_of k) k.passes p) m) e ≡ some n) none is))))

  pub first_stock_is : IsStockOf k p (first_stock k p)
  first_stock_is = record {
    count = length-range_with_len (stock_start (slots_of k) k.passes p) (stock_for k.passes k.installing p);
    inside = λ e n is. (entry_at e n is).0;
  }

  first_stock_agrees : StockAgrees k (first_where k) p (first_stock k p)
  first_stock_agrees = record { its = first_stock_is; here = λ e n is. (entry_at e n is).1 }

module _ (k : Start) (words : List ℕ) (homes : List (Option Closed)) (o : OpensWith k words homes) where
  abbrev s : State
  s = state_after_all k []

  abbrev first_phase : ℕ → Phase
  first_phase n = free

  none_at : (slot : ℕ) → s.at slot ≡ None
  none_at slot = ap (λ (x : Option ℕ). file_numbered (file_at [] x) slot) (read_default k.size slot None)

  none_full : (off len : ℕ) → full_in s.at off len ≡ 0
  none_full off zero = refl
  none_full off (suc len) = let rest = none_full off len in let here = ap if_full (none_at (off + len)) in omega (arith, rest, here)

  slot_opens : (slot : ℕ) → slot < slots_of k
      → SlotAgrees k (node_of_number k) first_phase (λ p. untouched) slot (s.at slot) (slice_index words (slot_place slot))
  slot_opens slot l = let z = empty_takes_made slot in
      subst (λ (f : Option File). SlotAgrees k (node_of_number k) first_phase (λ p. untouched) slot f (slice_index words (slot_place slot))) (sym (none_at slot))
      (subst (SlotAgrees k (node_of_number k) first_phase (λ p. untouched) slot None) (sym (o.named slot l))
      record { names = empty_file_made slot; seat = tt; takes = omega arith; heat = z.1 ∙ sym (tally_none k.passes) })

  -- the list has no bits
  no_bits : (p : ℕ) → p ≤ 1024 → IsListedIn (slice_index words (list_place p)) p → ⊥
  no_bits p high is = let z = subst (λ (i : ℕ). IsListedIn i p) (o.others (list_place p) (λ slot inside bad. omega (arith, bad, high))) is in let a = bit_at-zero (bit_of p) in omega (arith, z, a)

  -- the numbers of new passes
  in_order : (x : Log) → Contains (new_logs seats k 1 k.passes) x → (p : ℕ) × (0 < p) × (p ≤ k.passes) × (x ≡ new_log k p)
  in_order x h = let z = contains_map (new_log k) (range_with_len 1 k.passes) x h in
      let a = counted_once (λ (y : Log). y.number) (new_log k) (λ n. refl) z.0 k.passes in
      let b = sum_of (λ (y : Log). one_if (eqb y.number z.0)) (new_logs seats k 1 k.passes) x h in
      let c : one_if (eqb x.number z.0) ≡ 1 = bit_here z.0 x.number (ap (λ (y : Log). y.number) z.2) in
      (z.0, omega (arith, a, b, c, once_is k.passes z.0), omega (arith, a, b, c, once_is k.passes z.0), z.2)

  view_opens : (j : ℕ) (v : View) → get_elem? (first_view seats k ∷ []) j ≡ some v
      → ViewAgrees k [] words first_phase (λ q. 0) (λ i q. untouched) j v
  view_opens zero v e = subst (ViewAgrees k [] words first_phase (λ q. 0) (λ i q. untouched) 0) (some-injective (first_view seats k) v e) record {
    logs = λ x h. subst (LogAgrees k [] words first_phase (λ q. 0) (λ i q. untouched) Idle Nothing) (sym (in_order x h).3) (grind (arith, no_bits));
    work = tt;
  }
  view_opens (suc j) v e = absurd (some-ne-none v (sym e))

  stocks_open : (j : ℕ) (v : View) (x : Log) → get_elem? (first_view seats k ∷ []) j ≡ some v → Contains v.logs x → StockAgrees k (first_where k) x.number x.stock
  stocks_open zero v x e has = let z = in_order x (subst (λ (y : View). Contains y.logs x) (sym (some-injective (first_view seats k) v e)) has) in
      subst (λ (y : Log). StockAgrees k (first_where k) y.number y.stock) (sym z.3) (first_stock_agrees k z.1 z.2)
  stocks_open (suc j) v x e has = absurd (some-ne-none v (sym e))

  pub opening_keeps : Agrees k (opening words homes (first_view seats k))
  opening_keeps = record {
    shape = let a = length-map homes some in assumption (o, a ∙ o.homes_length);
    history = [];
    phase = first_phase;
    node_of = node_of_number k;
    numbering = λ number. refl;
    debt = λ q. 0;
    deed = λ i q. untouched;
    nodes = record {
      next_number = slots_of k;
      each = λ n l. record {
        counts = o.others (word_of k n) (λ slot inside bad. omega (arith, bad, inside));
        at_home = at_map some homes n None (o.vacant n l);
        untaken = refl;
        unowed = tally_same (λ p. eqb 0 (n + 1)) (λ p. false) k.passes (λ p low high. ne_eqb 0 (n + 1) (λ e. omega arith)) ∙ tally_none k.passes;
      };
      owners = λ n l. tt;
      labels = λ n l. tt;
      removed = λ number. refl;
      unborn = λ n l. refl;
      fresh = λ number l. ap not (le-ltb number (slots_of k) l);
      where_is = first_where k;
      named = λ slot l. let m : slots_of k ≤ nodes_of k = omega arith in record {
        node = slot;
        named = ap name_in (o.named slot l) ∙ empty_name_made slot;
        inside = omega arith;
        here = grind (arith, at_slot);
      };
      stocks = stocks_open;
    };
    slots = slot_opens;
    holds = record {
      views = view_opens;
      files = λ n. refl;
      listed = λ p low high is. absurd (no_bits p high is);
    };
    range = counts_alone (first_view seats k) refl
        (λ group l. let low = few_groups (range_at_start k).1 (omega (arith, o.slots, o.range)) in
        o.others (group_place group) (λ slot inside bad. omega (arith, bad, l, low))
        ∙ sym (none_full (group_start (range_at_start k) group) (group_len (range_at_start k).1 group)))
        (o.others question_place (λ slot inside bad. omega (arith, bad)));
    life = seats_open seats laws k;
  }
