-- All passes in one seat again: what the one history says of each of them.
use Rattle.table_seats.proofs.Words.{◌≡◌, ◌≢◌, ℕ, ◌<◌, ◌≤◌, List, [], ◌∷◌, map, length, reverse, sym, refl, ap, ◌∙◌, subst, arith, true, eqb, some}
use Rattle.table_seats.proofs.Words.{get_elem?, Contains, count_by, sum_by, flat_map, Event, IsSettled, IsWhole, logs_are}
use Rattle.table_seats.proofs.Words.{sum_gathered, each_seat, only_here, contains_map, contains_mapped, contains_none, contains_only, contains_reverse, one_if}
use Rattle.table_seats.proofs.Words.{contains_reversed, found_by, once_is, once, in_part, length-map, length-reverse, times_drawn, PassView, Seats, HasSeen}
use Rattle.table_seats.proofs.Words.{Together, state_at}

-- a total over all seats is that of a seat with all passes
pub total_of_seat : {V L K : Type 0} {W : Seats V L K} {k : K} {views : List V} {h : List Event} → Together W k views h → (seat : ℕ) {v : V}
    → get_elem? views seat ≡ some v → length (W.logs v) ≡ (W.opening k).passes → (f : L → ℕ)
    → sum_by (λ u. sum_by f (W.logs u)) views ≡ sum_by f (W.logs v)
total_of_seat t seat h3 all f = grind (arith, only_here)

-- a property of the only pass in a list
pub of_only : {P : Type 0} (Q : P → Type 0) {p : P} → Q p → (q : P) → Contains (p ∷ []) q → Q q
of_only Q {p} has q i = subst Q (sym (contains_only p q i)) has

-- one seat has the logs of these passes, which are all passes of the table
pub record AreGathered {V L K P : Type 0} (W : Seats V L K) (k : K) (views : List V) (its : P → List L) (log_of : P → L) (ps : List P)
    : Type 0 where
  pub one : (p : P) → Contains ps p → its p ≡ log_of p ∷ []
  pub count : length ps ≡ (W.opening k).passes
  pub seat : ℕ
  pub view : V
  pub at : get_elem? views seat ≡ some view
  pub are : W.logs view ≡ flat_map its (reverse ps)

module _ {V L K P : Type 0} {W : Seats V L K} {k : K} {views : List V} {h : List Event} {its : P → List L} {log_of : P → L} {ps : List P}
    (t : Together W k views h) (g : AreGathered W k views its log_of ps) where
  these_logs : W.logs g.view ≡ map log_of (reverse ps)
  these_logs = g.are ∙ logs_are its log_of (reverse ps) (λ p i. g.one p (contains_reverse ps p i))

  all_logs : length (W.logs g.view) ≡ (W.opening k).passes
  all_logs = ap (length {A = L}) these_logs ∙ (length-map (reverse ps) log_of ∙ (length-reverse ps ∙ g.count))

  -- a property of this seat, and of idle seats, holds for each seat
  pub each_rests : (Q : V → Type 0) → Q g.view → ((u : V) → W.IsIdle u → Q u) → (i : ℕ) (u : V) → get_elem? views i ≡ some u → Q u
  each_rests Q here idle = each_seat W.logs views g.seat g.view g.at (all_logs ∙ sym t.whole) Q here (λ i u e none. idle u ((t.seats i u e).empty none))

  pub its_log : (p : P) → Contains ps p → Contains (W.logs g.view) (log_of p)
  its_log p i = subst (λ (l : List L). Contains l (log_of p)) (sym these_logs) (contains_mapped log_of (reverse ps) p (contains_reversed ps p i))

  pub has_seen : (p : P) → Contains ps p → HasSeen W h (log_of p)
  has_seen p i = (t.seats g.seat g.view g.at).passes (log_of p) (its_log p i)

  -- a total over all passes
  pub total : (f : L → ℕ) → sum_by (λ u. sum_by f (W.logs u)) views ≡ sum_by (λ p. f (log_of p)) ps
  total f = total_of_seat t g.seat g.at all_logs f ∙ sum_gathered its log_of f ps (W.logs g.view) these_logs

  -- each number from 1 on is that of one pass
  pub numbers : (n : ℕ) → count_by (λ p. eqb (W.number (log_of p)) n) ps ≡ once (W.opening k).passes n
  numbers n = sym (total (λ x. one_if (eqb (W.number x) n))) ∙ t.passes n

  pub pass_of : {n : ℕ} → 1 ≤ n → n ≤ (W.opening k).passes → (p : P) × Contains ps p × (W.number (log_of p) ≡ n)
  pass_of {n} low high = found_by (λ p. W.number (log_of p)) n ps (omega (arith, numbers n, once_is (W.opening k).passes n))

  author : (e : Event) → Contains h e → (p : P) × Contains ps p × (W.number (log_of p) ≡ e.pass)
  author e i =
      let known : once (W.opening k).passes e.pass ≢ 0 =
      λ none. contains_none e (subst (λ (l : List Event). Contains l e) (t.authors e.pass none) (in_part e.pass h e i refl)) in
      found_by (λ p. W.number (log_of p)) e.pass ps (omega (arith, known, numbers e.pass))

  module _ (view_of : P → PassView)
      (is : (p : P) → ((view_of p).number ≡ W.number (log_of p)) × ((view_of p).front ≡ W.front (log_of p)) × ((view_of p).own ≡ W.own (log_of p))) where
    -- the chains that the passes drew
    pub record HaveDrawn : Type 0 where
      pub inside : (w : PassView) → Contains (map view_of ps) w → (c : ℕ) → Contains w.drawn c → (0 < c) × (c ≤ (W.opening k).chains)
      pub once : (c : ℕ) → sum_by (times_drawn c) (map view_of ps) ≤ 1
      pub all : ((w : PassView) → Contains (map view_of ps) w → w.no_chains_left ≡ true)
          → (c : ℕ) → 0 < c → c ≤ (W.opening k).chains → (w : PassView) × Contains (map view_of ps) w × Contains w.drawn c

    pub whole : IsSettled (state_at (W.opening k) h) → HaveDrawn → IsWhole (W.opening k) h (map view_of ps)
    whole settled drawn = record {
      legal = t.legal;
      settled = settled;
      seen = λ w i. let p = contains_map view_of ps w i in rw (p.2, (is p.0).1) (has_seen p.0 p.1).seen;
      own = λ w i. let p = contains_map view_of ps w i in rw (p.2, (is p.0).0, (is p.0).2) (has_seen p.0 p.1).own;
      authors = λ e i. let p = author e i in (view_of p.0, contains_mapped view_of ps p.0 p.1, sym ((is p.0).0 ∙ p.2));
      chains_inside = drawn.inside;
      drawn_once = drawn.once;
      all_drawn = drawn.all;
    }
