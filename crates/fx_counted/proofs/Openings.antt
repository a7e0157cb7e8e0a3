-- The opening of a table: its words and places, and the rule with them.
use Rattle.fx_counted.proofs.{count_by-le-length, sum_by, ◌≡◌, ℕ, ◌+◌, ◌≤◌, Option, Some, None, sym, ◌∙◌, subst, arith, File, sum_le_at, Agrees}
use Rattle.fx_counted.proofs.{node_in, Names, WorkAgrees, lengths, changes_of, looks, all_looks, Shared, looks_of, Start, Retiring, Between, ap}
use Rattle.fx_counted.proofs.{IsSeated, mul-le-mul_right, zero, suc, ◌*◌, ◌<◌, List, length, refl, slice_index, State, full_in, first_at}
use Rattle.fx_counted.proofs.{control_place, draw_place, slot_place, words_for, word_for, node_for, control_word_of, [], ◌∷◌, some, get_elem?, Closed}
use Rattle.fx_counted.proofs.{state_of, MAX_CHAINS, chain_numbers, AreFirstWords, AreFirstHomes, homes_for, map, home_for, OpensWith, MAX_PASSES}
use Rattle.fx_counted.proofs.{first_file, Bool, nat_lt, cond, eqb, lt-ltb, le-ltb, ⊎_elim, count_by, numbered, sum_by-cons, numbers_for, born}
use Rattle.fx_counted.proofs.{SlotAgrees, NodeAgrees, OwnerAgrees, HasLaws, ViewAgrees, new_logs, word_of, place_of, opening_of, slots_of, IsNumber}
use Rattle.fx_counted.proofs.{state_after_all, new_log, Phase, unborn, seated, closed, Log, View, ◌&&◌, length-map, at_map, first_view, contains_map}
use Rattle.fx_counted.proofs.{sum_zero, one_if, once_is, range_with_len, not, full_few, numbered_anew, seats, rules, seats_open, few_changes}
use Rattle.fx_counted.proofs.{few_full, few_added, few_removed, looks_few, in_phase, node_is, high_node, low_home, high_home}
use Rattle.fx_counted.specs.Bounds.{AreBounded, slot_word_in, node_word_in}
use Rattle.fx_table.proofs.Shells.{in_place, none_outside}
use Rattle.atomic_table.specs.Table.{opening as table_opening}

pub laws : HasLaws seats
laws = grind arith

-- the only view
only_view : {v : View} (j : ℕ) {u : View} → get_elem? (v ∷ []) j ≡ some u → ◌≡◌ {A = ℕ × View} (0, v) (j, u)
only_view j e = grind arith

module _ (k : Start) (s : Shared) (r : Agrees k s) where
  few_passes : sum_by (lengths seats) s.views ≤ 16
  few_passes = let a = r.life.whole in let b = r.shape.passes in omega arith

  -- all looks that were made
  few_looks : all_looks r.history + sum_by looks_of s.views ≤ 16777216
  few_looks = let a = r.look_ups in let b = r.shape.passes in omega arith

  -- a node word counts no more releases than looks
  few_releases : (n word holds : ℕ) → word + looks r.history n ≡ 4294967296 + holds → 4294967296 ≤ word + 16777216
  few_releases n word holds is = let a = looks_few r.history n in let b = few_looks in omega arith

  of_slot : (slot : ℕ) {number : ℕ} (file : Option File) → Names (slot_word_in s slot) file
      → IsSeated k (looks r.history) r.phase slot (slot_word_in s slot) file → node_in (slot_word_in s slot) ≡ Some number
      → 4294967296 ≤ node_word_in k s number + 16777216
  of_slot slot {number} None names seat is = let e : None ≡ Some number = sym (node_is (slot_word_in s slot) None names) ∙ is in absurd (cc e)
  of_slot slot {number} (Some f) names seat is =
      let e : Some f.number ≡ Some number = sym (node_is (slot_word_in s slot) (Some f) names) ∙ is in
      let same : f.number ≡ number = cc in let a = in_phase k s r seat.0 seat.2 in
      subst (λ (n : ℕ). 4294967296 ≤ node_word_in k s n + 16777216) same (few_releases f.number _ _ a.counts)

  changes_most : sum_by changes_of s.views ≤ 16
  changes_most = let a = sum_le_at changes_of (lengths seats) s.views (few_changes k s r) in let b = few_passes in omega arith

  pub words_are_bounded : AreBounded k s
  words_are_bounded = record {
    takes = λ slot inside. let a = (r.each_slot slot inside).takes in let b = few_looks in omega arith;
    named = λ slot number inside is. let a = r.each_slot slot inside in of_slot slot _ a.names a.seat is;
    leaving = λ seat takes v f there is.
        let work : WorkAgrees k r.phase seat (Between (Retiring f takes)) = subst (WorkAgrees k r.phase seat) is (r.each_view seat v there).work in
        let a = in_phase k s r work.0 work.1 in few_releases f.number _ _ a.counts;
    draws = grind (arith, sum_le_at, lengths, seats, count_by-le-length, few_passes);
    changes = let a = r.control.upper in let b = changes_most in omega arith;
    least = let a = r.control.lower in let b = few_added k s r in let c = changes_most in omega arith;
    most = let a = r.control.lower in let b = few_removed k s r in let c = few_full k s r in let d = changes_most in omega arith;
  }

-- The opening of a table: its first words and places, and the rule with them.

-- the words of the slots below this one are written so
pub record AreWordsSoFar (st : State) (numbers done : ℕ) (words : List ℕ) : Type 0 where
  pub count : length words ≡ words_for st.size numbers
  pub entries : (slot : ℕ) (f : File) → slot < done → first_at st slot ≡ Some f → f.identity.entry < 256
  pub control : slice_index words control_place ≡ control_word_of (full_in (first_at st) st.range.0 st.range.1)
  pub draw : slice_index words draw_place ≡ 0
  pub slots : (slot : ℕ) → slot < done → slice_index words (slot_place slot) ≡ word_for (first_at st slot)
  pub nodes : (slot : ℕ) → slot < done → slice_index words (17 + 8 * slot) ≡ node_for (first_at st slot)
  pub rest : (place : ℕ) → 16 + 8 * done ≤ place → slice_index words place ≡ 0

-- A table with the words and places of a table of one thread keeps the rule.
module _ (k : Start) (words : List ℕ) (homes : List (Option Closed)) where
  abbrev st : State
  st = state_of k.plain.value

  pub opens_with : st.size ≤ 256 → st.range.0 + st.range.1 ≤ st.size → k.chains ≤ MAX_CHAINS → k.passes ≤ MAX_PASSES → k.numbers ≤ 64
      → AreFirstWords st (chain_numbers k) words → AreFirstHomes k.plain.value (homes_for st.size (chain_numbers k)) homes → OpensWith k words homes
  opens_with few inside chains passes numbers w h = grind (arith, none_outside, some, low_home, in_place, high_node, high_home)

-- A table that is opened keeps the rule.
looks_new : (k : Start) (p n : ℕ) → sum_by (λ (y : Log). y.looks_left) (new_logs seats k p n) ≡ 1048576 * n
looks_new k p zero = refl
looks_new k p (suc n) = search (rules, looks_new k (p + 1) n, sum_by-cons, seats)

none_new : (k : Start) (f : Log → ℕ) → ((p : ℕ) → f (new_log p) ≡ 0) → (n : ℕ) → sum_by f (new_logs seats k 1 n) ≡ 0
none_new k f none n = sum_zero f (new_logs seats k 1 n) (λ x h. let p = contains_map new_log (range_with_len 1 n) x h in ap f p.2 ∙ none p.0)

-- the phase of a slot's number
abbrev phase_for : ℕ → Option File → Phase
phase_for n None = closed
phase_for n (Some f) = seated n f.identity

abbrev first_phase : Start → ℕ → Phase
first_phase k n = cond (nat_lt n (slots_of k)) (phase_for n (first_file k n)) unborn

module _ (k : Start) (words : List ℕ) (homes : List (Option Closed)) (o : OpensWith k words homes) where
  abbrev s : State
  s = state_after_all k []

  low_phase : {n : ℕ} → n < slots_of k → first_phase k n ≡ phase_for n (first_file k n)
  low_phase {n} l = ap (λ (b : Bool). cond b (phase_for n (first_file k n)) unborn) (lt-ltb n (slots_of k) l)

  high_phase : {n : ℕ} → slots_of k ≤ n → first_phase k n ≡ unborn
  high_phase {n} g = ap (λ (b : Bool). cond b (phase_for n (first_file k n)) unborn) (le-ltb n (slots_of k) g)

  -- the file at a slot has the slot's number
  its_number : (slot : ℕ) (f : File) → first_file k slot ≡ Some f → f.number ≡ slot
  its_number slot f is = numbered_anew ((state_of (opening_of k).contents).at slot) slot f is

  slot_opens : (slot : ℕ) → slot < slots_of k → SlotAgrees k [] (first_phase k) slot (slice_index words (slot_place slot))
  slot_opens slot l = grind arith

  abbrev Node : ℕ → Phase → Type 0
  Node n ph = NodeAgrees s n 0 (slice_index words (word_of k n)) (get_elem? (map some homes) (place_of k n)) ph

  node_opens : (n : ℕ) → IsNumber k n → Node n (first_phase k n)
  node_opens n has = ⊎_elim (λ (l : n < slots_of k). subst (Node n) (sym (low_phase l)) (low n l (first_file k n) refl))
      (λ (h : (256 ≤ n) × (n < 256 + chain_numbers k)). let few = o.slots in subst (Node n) (sym (high_phase (omega arith))) record {
        counts = o.fresh_words n h.0 h.1;
        at_home = at_map some homes (place_of k n) None (o.fresh_places n h.0 h.1);
        fresh = λ i. not (le-ltb n (slots_of k) (let f = o.slots in let a = h.0 in
            omega arith) i) && lt-ltb n (numbers_for k.chains) (let a = h.1 in let b = mul-le-mul_right k.chains o.numbers in omega (arith, a, b)) i;
        no_looks = refl;
        no_holds = refl;
        not_removed = refl;
      })
      has
    where
      low : (n : ℕ) → n < slots_of k → (found : Option File) → first_file k n ≡ found → Node n (phase_for n found)
      low n l None is = assumption (
        o.node_words n l ∙ ap node_for is,
        at_map some homes (place_of k n) None (o.files n l ∙ ap (λ (f : Option File). some (home_for f)) is),
      )
      low n l (Some f) is = let w : slice_index words (word_of k n) ≡ born = o.node_words n l ∙ ap node_for is in record {
        counts = omega arith;
        at_home = at_map some homes (place_of k n) (Some f.identity) (o.files n l ∙ ap (λ (f : Option File). some (home_for f)) is);
        inside = l;
        there = is ∙ ap (λ (m : ℕ). Some (numbered m f.identity)) (its_number n f is);
        not_removed = refl;
      }

  owner_opens : (n : ℕ) → OwnerAgrees (first_view seats k ∷ []) n (first_phase k n)
  owner_opens n = grind arith

  view_opens : ViewAgrees k [] (first_phase k) 0 (first_view seats k)
  view_opens = record {
    logs = λ x h. grind (arith, contains_map new_log (range_with_len 1 k.passes) x h);
    work = tt;
  }

  pub opening_keeps : Agrees k (table_opening words homes (first_view seats k))
  opening_keeps = record {
    shape = assumption (o, length-map homes some ∙ o.homes_length);
    history = [];
    phase = first_phase k;
    life = seats_open seats laws k;
    each_slot = slot_opens;
    each_node = node_opens;
    each_owner = λ n has. owner_opens n;
    no_other = λ n absent. refl;
    each_view = λ j v e. subst (λ (z : ℕ × View). ViewAgrees k [] (first_phase k) z.0 z.1) (only_view j e) view_opens;
    holds = λ n. refl;
    look_ups = let a = looks_new k 1 k.passes in omega arith;
    control = grind (arith, full_few);
    draws = record {
      given = 0;
      few = omega arith;
      each = λ c. let a = none_new k (λ y. count_by (λ d. eqb d c) y.drawn) (λ p. refl) k.passes in omega (arith, once_is 0 c);
      counts = let a = none_new k (λ y. one_if y.no_chains_left) (λ p. refl) k.passes in let b = o.draw in omega arith;
      all = λ some_told. let a = none_new k (λ y. one_if y.no_chains_left) (λ p. refl) k.passes in absurd (omega arith);
      unused = λ n low high. high_phase (let a = o.slots in omega arith);
    };
  }
