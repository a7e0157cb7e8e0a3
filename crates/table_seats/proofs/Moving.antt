use Rattle.std.proofs.Common.{arith, rules}
-- Seats are split, joined and shown under the rule of any table, and a seat observes it.
use Rattle.table_seats.proofs.Words.{◌≡◌, ℕ, ◌+◌, ◌≤◌, List, [], ◌∷◌, ◌++◌, set, sym, refl, ◌∙◌, subst, set_again, set-get_or}
use Rattle.table_seats.proofs.Words.{All, PassView, flat_map, reverse}
use Rattle.table_seats.proofs.Words.{Event, IsSeenBy, seen_from_start, Splits, Joins, Allows, TableState, Me, keeps, step, appended, split, seats_joined}
use Rattle.table_seats.proofs.Words.{first_left, last_left, Seats, dealt, without_first, first_alone, joined, spent, front_in, shown_view, Together}
use Rattle.table_seats.proofs.Together.{HasLaws, Moves, Shows, known, its_pass}
use Rattle.fx_seen.proofs.Views.{of_replaced, of_appended}
use Rattle.table_seats.specs.Settling.{Observes}
use Rattle.atomic_table.specs.Seated.{TableId}
use Rattle.atomic_table.specs.declared.shared.Seat.{Seat}
use Rattle.fx_table.proofs.Chains.{AreDealt}

-- a table's rule has its seats together, and holds where passes move between idle seats
pub record IsRule {S V L K : Type 0} (W : Seats V L K) (Holds : K → TableState S V → Type 0) : Type 0 where
  pub history : (k : K) (s : TableState S V) → Holds k s → List Event
  pub life : (k : K) (s : TableState S V) (r : Holds k s) → Together W k s.views (history k s r)
  pub moves : (k : K) (s : TableState S V) (r : Holds k s) (views : List V) → Moves W k (history k s r) s.views views
      → Holds k record { words = s.words; homes = s.homes; views = views }

module _ {S V L K : Type 0} {W : Seats V L K} {Holds : K → TableState S V → Type 0} (rule : IsRule W Holds) (laws : HasLaws W)
    (k : K) (id : ℕ) (v : V) where
  -- a seat shows the same history with other passes
  same_shown : {h : List Event} (l : List L) → Shows W h v → Shows W h (W.with_logs v l)
  same_shown {h} l seen = subst (λ (f : List Event). IsSeenBy f h) (sym (laws.cut_known v l)) seen

  pub may_split : W.IsIdle v → Splits (Holds k) id v (without_first W v) (first_alone W v)
  may_split idle s r at = let t = rule.life k s r in let mine = t.seats id v at in let P = Shows W (rule.history k s r) in rule.moves k s r _ record {
    seats = split W.logs W.start k W.IsIdle s.views id v at idle (W.with_logs v) (laws.cut_logs v) (λ l. laws.cut_idle v l idle) (laws.cut_start v) mine.start;
    shown = search (rules, of_appended, set, without_first, of_replaced, known, same_shown);
  }

  pub may_join : W.IsIdle v → W.start v ≡ k → (other : ℕ) (w : V) → W.IsIdle w → Joins (Holds k) id v other w (joined W v w) (spent W)
  may_join idle begun other w w_idle s r at apart there =
      let t = rule.life k s r in let h = rule.history k s r in let both = joined W v w in let l = W.logs v ++ W.logs w in rule.moves k s r _ record {
        seats = seats_joined W.logs W.start k W.IsIdle s.views id v at idle other w both (spent W) apart there w_idle (laws.cut_idle v l idle)
            (laws.cut_logs v l) (laws.cut_start v l ∙ begun) (laws.shown_idle []) (laws.shown_logs []);
        shown = of_replaced (Shows W h) (set s.views id both) (of_replaced (Shows W h) s.views (known t) id both (same_shown l (t.seats id v at).known))
            other (spent W) (subst (λ (f : List Event). IsSeenBy f h) (sym (laws.shown_known [])) (seen_from_start h));
      }

  -- a seat with one pass may show what the pass has seen
  pub may_show : {x : L} → W.logs v ≡ x ∷ [] → Splits (Holds k) id v v (shown_view W v)
  may_show {x} one s r at =
      let t = rule.life k s r in let h = rule.history k s r in let f = front_in W (W.logs v) in
      let seen : IsSeenBy f h = subst (λ (l : List L). IsSeenBy (front_in W l) h) (sym one) (its_pass t id at one).seen in
      subst (λ (l : List V). Holds k record { words = s.words; homes = s.homes; views = l ++ shown_view W v ∷ [] }) (sym (set_again s.views id v at))
      (rule.moves k s r _ record {
        seats = appended W.logs W.start k W.IsIdle s.views (shown_view W v) (laws.shown_idle f) (laws.shown_logs f);
        shown = of_appended (Shows W h) s.views (known t) (shown_view W v) (subst (λ (g : List Event). IsSeenBy g h) (sym (laws.shown_known f)) seen);
      })

-- any seat may look, and nothing changes
pub may_observe : {S V K : Type 0} {Holds : K → TableState S V → Type 0} {start : V → K} {k : K} (slots id i : ℕ) {me : Me S V} → start me.0 ≡ k
    → Allows (Holds k) slots id me i (λ n. n) (Observes Holds start (step slots i 0 0 mathlib.Core.Option.none) me)
may_observe {S} {V} {K} {Holds} slots id i {me} begun s r wide at small = (
  me.0,
  keeps,
  tt,
  rw (set-get_or s.words i 0, set_again s.views id me.0 at) r,
  record { last = s; rule = subst (λ (z : K). Holds z s) (sym begun) r; seat = id; view = at; same = refl },
)

-- The passes that are dealt out.
module _ {V L K : Type 0} (W : Seats V L K) (laws : HasLaws W) (k : K) where
  abbrev its : ℕ → List L
  its p = W.logs (dealt W k p)

  -- the others, and the first alone
  pub rest_is_dealt : {p : ℕ} → p ≤ (W.opening k).passes → without_first W (dealt W k p) ≡ dealt W k (p + 1)
  rest_is_dealt high = grind (arith, first_left)

  pub alone_is_dealt : {p : ℕ} → p ≤ (W.opening k).passes → first_alone W (dealt W k p) ≡ W.begun k (W.new_log k p ∷ [])
  alone_is_dealt high = grind (arith, first_left)

  -- the last pass alone
  pub last_is_dealt : {p : ℕ} → p ≡ (W.opening k).passes → dealt W k p ≡ first_alone W (dealt W k p)
  last_is_dealt last = grind (arith, last_left)

-- the passes before `number` have seats of their own, and this seat has the others
pub record IsDealing {S V L K P : Type 0} (W : Seats V L K) (Is : P → Type 0) (shown : P → PassView) (id : TableId) (k : K) (seat : Seat S V)
    (number passes : ℕ) (dealt_out : List P) (capacity : ℕ) : Type 0 where
  pub before : AreDealt Is shown number passes dealt_out
  pub table : seat.table_id ≡ id
  pub me : seat.me ≡ (dealt W k number, [])
  pub room : passes ≤ capacity

-- the seat `first` took in the passes of others, and those in the list are left
pub record IsGathering {S V L K P : Type 0} (W : Seats V L K) (Rests : Seat S V → Type 0) (seat_of : P → Seat S V)
    (first now : Seat S V) (all left : List P) : Type 0 where
  pub seat : Rests now
  pub passes : All (λ p. Rests (seat_of p)) left
  pub logs : W.logs now.me.0 ++ flat_map (λ p. W.logs (seat_of p).me.0) (reverse left)
      ≡ W.logs first.me.0 ++ flat_map (λ p. W.logs (seat_of p).me.0) (reverse all)
