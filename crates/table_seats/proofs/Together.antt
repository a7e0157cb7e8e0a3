-- The seats of a table stay together when one of them makes a step, when passes move between idle
-- seats, and at the opening.
use Rattle.table_seats.proofs.Words.{◌≡◌, ◌≢◌, ℕ, ◌+◌, ◌<◌, ◌≤◌, List, [], ◌∷◌, length, set, sym, refl, ap, ◌∙◌, subst, arith, inl, inr, ⊎_elim}
use Rattle.table_seats.proofs.Words.{Contains, count_by, sum_by, some, get_elem?, at_set, Event, IsLegal, IsSeenBy, seen_again, Grows, grows_none}
use Rattle.table_seats.proofs.Words.{AreReseated, IsAnew, bit_here, contains_alone, contains_map, contains_only, counted_once, found_by, found_sum}
use Rattle.table_seats.proofs.Words.{once_is, one_if, sum_at, sum_of, sum_set, sum_two, start_of, state_at, length-append, length-map-range_with_len}
use Rattle.table_seats.proofs.Words.{sum_by-append, range_with_len, Seats, first_view, HasSeen, IsSeated, Together, lengths, eqb, logs_of, map}
use Rattle.atomic_table.proofs.Lists.{at_index}
use Rattle.fx_seen.proofs.Views.{OfEach, of_one as of_one_view, of_replaced}

-- The parts of views that are made for the opening, that are cut, and that show a history.
pub record HasLaws {V L K : Type 0} (W : Seats V L K) : Type 0 where
  pub begun_logs : (k : K) (l : List L) → W.logs (W.begun k l) ≡ l
  pub begun_start : (k : K) (l : List L) → W.start (W.begun k l) ≡ k
  pub begun_known : (k : K) (l : List L) → W.known (W.begun k l) ≡ []
  pub begun_idle : (k : K) (l : List L) → W.IsIdle (W.begun k l)
  pub begun_with : (k : K) (l m : List L) → W.with_logs (W.begun k l) m ≡ W.begun k m
  pub cut_logs : (v : V) (l : List L) → W.logs (W.with_logs v l) ≡ l
  pub cut_start : (v : V) (l : List L) → W.start (W.with_logs v l) ≡ W.start v
  pub cut_known : (v : V) (l : List L) → W.known (W.with_logs v l) ≡ W.known v
  pub cut_idle : (v : V) (l : List L) → W.IsIdle v → W.IsIdle (W.with_logs v l)
  pub shown_logs : (h : List Event) → W.logs (W.showing h) ≡ []
  pub shown_known : (h : List Event) → W.known (W.showing h) ≡ h
  pub shown_idle : (h : List Event) → W.IsIdle (W.showing h)
  pub new_number : (k : K) (p : ℕ) → W.number (W.new_log k p) ≡ p
  pub new_front : (k : K) (p : ℕ) → W.front (W.new_log k p) ≡ []
  pub new_own : (k : K) (p : ℕ) → W.own (W.new_log k p) ≡ []

-- the one pass of a seat makes up what the seat counts for
pub of_one : {L : Type 0} (f : L → ℕ) {l : List L} {x : L} → l ≡ x ∷ [] → sum_by f l ≡ f x
of_one f {l} {x} one = let e : sum_by f l ≡ 0 + f x = ap (sum_by f) one in omega arith

-- a total over all passes, where the one pass of a seat counts for as much as before
pub total_same : {V L : Type 0} (logs : V → List L) (f : L → ℕ) (views : List V) (id : ℕ) {v : V} (w : V) {x y : L} → get_elem? views id ≡ some v
    → logs v ≡ x ∷ [] → logs w ≡ y ∷ [] → f y ≡ f x → sum_by (λ u. sum_by f (logs u)) (set views id w) ≡ sum_by (λ u. sum_by f (logs u)) views
total_same logs f views id w here one one' same = grind (arith, sum_set, of_one)

-- the history that the seat shows begins this one
abbrev pub Shows : {V L K : Type 0} → Seats V L K → List Event → V → Type 0
Shows W h v = IsSeenBy (W.known v) h

-- passes move between idle seats, and what seats show begins the history
pub record Moves {V L K : Type 0} (W : Seats V L K) (k : K) (h : List Event) (views views' : List V) : Type 0 where
  pub seats : AreReseated W.logs W.start k W.IsIdle views views'
  pub shown : OfEach (Shows W h) views'

-- a seat with a pass began where the table did
pub started : {V L K : Type 0} {W : Seats V L K} {k : K} {h : List Event} {v : V} {x : L} → W.logs v ≡ x ∷ [] → IsSeated W k h v → W.start v ≡ k
started {L} {W} {v} {x} one seat = ⊎_elim (λ none. let bad : x ∷ [] ≡ [] = sym one ∙ none in absurd (cc bad)) (λ is. is) seat.start

module _ {V L K : Type 0} {W : Seats V L K} {k : K} {views : List V} {h : List Event} (t : Together W k views h) where
  pub known : OfEach (Shows W h) views
  known j u e = (t.seats j u e).known

  -- what the one pass of a seat has seen
  pub its_pass : (id : ℕ) {v : V} {x : L} → get_elem? views id ≡ some v → W.logs v ≡ x ∷ [] → HasSeen W h x
  its_pass id {v} {x} here one = (t.seats id v here).passes x (contains_alone one)

  -- a pass that one view has is in no other one
  pub not_there : {id j : ℕ} {v u : V} {x : L} → get_elem? views id ≡ some v → W.logs v ≡ x ∷ [] → j ≢ id → get_elem? views j ≡ some u
      → (y : L) → Contains (W.logs u) y → W.number y ≢ W.number x
  not_there {id} {j} {v} {u} {x} here one other there y at same =
      let n = W.number x in let f : L → ℕ = λ z. one_if (eqb (W.number z) n) in
      omega (
        arith,
        sum_two (logs_of W n) views j id u v other there here,
        t.passes n,
        of_one f one,
        bit_here n n refl,
        sum_of f (W.logs u) y at,
        bit_here n (W.number y) same,
        once_is (W.opening k).passes n,
      )

  -- the number of each pass of the table
  pub its_range : (j : ℕ) {u : V} → get_elem? views j ≡ some u → {y : L} → Contains (W.logs u) y
      → (0 < W.number y) × (W.number y ≤ (W.opening k).passes)
  its_range j {u} there {y} at =
      let n = W.number y in let a = sum_at (logs_of W n) views j u there in let b = sum_of (λ z. one_if (eqb (W.number z) n)) (W.logs u) y at in
      let c = bit_here n n refl in let d = t.passes n in let e = once_is (W.opening k).passes n in (omega arith, omega arith)

  -- each pass of the table is in a view
  pub find_pass : {p : ℕ} → 0 < p → p ≤ (W.opening k).passes
      → (j : ℕ) × (u : V) × (z : L) × (get_elem? views j ≡ some u) × Contains (W.logs u) z × (W.number z ≡ p)
  find_pass {p} low high =
      let a = found_sum (logs_of W p) views (omega (arith, t.passes p, once_is (W.opening k).passes p, low, high)) in
      let b = found_by W.number p (W.logs a.0) a.2 in (a.1.0, a.0, b.0, at_index views a.1.0 a.0 a.1.1 (sym a.1.2), b.1, b.2)

  -- a step of a seat with one pass, which has seen the new history
  module _ (id : ℕ) {v w : V} {x y : L} {h' : List Event} (here : get_elem? views id ≡ some v) (one : W.logs v ≡ x ∷ []) (one' : W.logs w ≡ y ∷ [])
      (number : W.number y ≡ W.number x) (start : W.start w ≡ W.start v) (shown : W.known w ≡ W.known v) (grows : Grows (W.number x) h h')
      (legal : IsLegal (start_of (W.opening k)) h' (state_at (W.opening k) h')) (seen : HasSeen W h' y) where
    mine : IsSeated W k h' w
    mine = grind (arith, contains_only, shown, known, started)

    another : (j : ℕ) (u : V) → j ≢ id → get_elem? views j ≡ some u → IsSeated W k h' u
    another j u other e = let o = t.seats j u e in record {
      passes = λ z i. let s = o.passes z i in grind (arith, not_there);
      known = grows.seen (W.known u) o.known;
      empty = o.empty;
      start = o.start;
    }

    pub stepped : Together W k (set views id w) h'
    stepped = record {
      legal = legal;
      seats = λ j u e. ⊎_elim (λ (m : (j ≡ id) × (w ≡ u)). subst (IsSeated W k h') m.1 mine) (λ m. another j u m.0 m.1) (at_set views id j w u e);
      passes = λ p. total_same W.logs (λ z. one_if (eqb (W.number z) p)) views id w here one one' (ap (λ (q : ℕ). one_if (eqb q p)) number) ∙ t.passes p;
      whole = omega (arith, sum_set (lengths W) views id v w here, ap (length {A = L}) one, ap (length {A = L}) one', t.whole);
      authors = λ p none. grind (arith, its_range, contains_alone, once_is);
    }

  -- a seat with one pass learns the whole history
  pub learned : (id : ℕ) {v w : V} {x y : L} → get_elem? views id ≡ some v → W.logs v ≡ x ∷ [] → W.logs w ≡ y ∷ [] → W.number y ≡ W.number x
      → W.start w ≡ W.start v → W.known w ≡ W.known v → HasSeen W h y → Together W k (set views id w) h
  learned id {x} here one one' number start shown seen = stepped id here one one' number start shown (grows_none (W.number x) h) t.legal seen

  -- a seat changes in nothing of this
  pub renewed : (id : ℕ) {v w : V} → get_elem? views id ≡ some v → W.logs w ≡ W.logs v → W.start w ≡ W.start v → W.known w ≡ W.known v
      → (W.logs v ≡ [] → W.IsIdle w) → Together W k (set views id w) h
  renewed id {v} {w} here logs start shown empty = let o = t.seats id v here in record {
    legal = t.legal;
    seats = of_replaced (IsSeated W k h) views t.seats id w record {
      passes = λ x i. o.passes x (subst (λ (l : List L). Contains l x) logs i);
      known = subst (λ (f : List Event). IsSeenBy f h) (sym shown) o.known;
      empty = λ none. empty (sym logs ∙ none);
      start = ⊎_elim (λ none. inl (logs ∙ none)) (λ is. inr (start ∙ is)) o.start;
    };
    passes = λ p. omega (arith, sum_set (logs_of W p) views id v w here, ap (count_by (λ x. eqb (W.number x) p)) logs, t.passes p);
    whole = omega (arith, sum_set (lengths W) views id v w here, ap (length {A = L}) logs, t.whole);
    authors = t.authors;
  }

  pub reseated : {views' : List V} → Moves W k h views views' → Together W k views' h
  reseated m = record {
    legal = t.legal;
    seats = λ j u e. ⊎_elim (λ (new : IsAnew W.logs W.start k W.IsIdle views u). record {
      passes = λ x i. let o = new.its x i in (t.seats o.0 o.1 o.2).passes x o.4;
      known = m.shown j u e;
      empty = λ _. new.idle;
      start = new.begun;
    }) (λ old. t.seats j u old) (m.seats.each j u e);
    passes = λ p. m.seats.by_logs (count_by (λ x. eqb (W.number x) p)) refl (λ xs ys. sum_by-append _ xs ys) ∙ t.passes p;
    whole = m.seats.by_logs (length {A = L}) refl (λ xs ys. length-append xs ys) ∙ t.whole;
    authors = t.authors;
  }

-- the seat that opens the table
pub opens : {V L K : Type 0} (W : Seats V L K) → HasLaws W → (k : K) → Together W k (first_view W k ∷ []) []
opens {L} W laws k = let n = (W.opening k).passes in let new = W.new_log k in let are = laws.begun_logs k (map new (range_with_len 1 n)) in record {
  legal = record { leads = (tt, refl); releases = tt };
  seats = of_one_view (IsSeated W k []) (first_view W k) record {
    passes = λ x i. let is = contains_map new (range_with_len 1 n) x (subst (λ (l : List L). Contains l x) are i) in
        grind (arith, contains_map, seen_again);
    known = subst (λ (f : List Event). IsSeenBy f []) (sym (laws.begun_known k (map new (range_with_len 1 n)))) (seen_again []);
    empty = λ _. laws.begun_idle k (map new (range_with_len 1 n));
    start = inr (laws.begun_start k (map new (range_with_len 1 n)));
  };
  passes = λ p. omega (
    arith,
    of_one (logs_of W p) {l = first_view W k ∷ []} refl,
    ap (count_by (λ x. eqb (W.number x) p)) are,
    counted_once W.number new (laws.new_number k) p n,
  );
  whole = omega (arith, of_one (lengths W) {l = first_view W k ∷ []} refl, ap (length {A = L}) are, length-map-range_with_len new 1 n);
  authors = λ p none. refl;
}
