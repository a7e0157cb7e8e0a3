-- A pass that asks whether the range is full: what its steps leave, one after another.
use Rattle.fx_lasting.proofs.{◌≡◌, ℕ, ◌+◌, [], ◌▷◌, Full, subst, Bool, true, false, Sat, Work, Glance, Change, Runs, Survey, Covered, as_asked, refl}
use Rattle.fx_lasting.proofs.{sym, ◌∙◌, ap, IsAtWork, Start, LastingTable, LastingPass, IsPassOfTable, groups_in, range_at_start, opening_of, view_of}
use Rattle.fx_lasting.proofs.{Option, Closed, View, List, Action, arith, HasQuestionOf, pass_in, Seat, adds_nothing, Adds, cond, no_use, IsIdle}
use Rattle.fx_lasting.proofs.{DoesNothing, AsksSo, DecidesIf, HasAsked, adds_run, goes_on, rests_on, runs_then, runs_asked, at_asked}
use Rattle.fx_lasting.proofs.{still_at_work, number_is}

-- the question word doesn't have the pass's bit
pub is_gone : (found : ℕ) {k : Start} {p : ℕ} {m : Sat} {b : Bool} → IsAtWork k p m → (HasQuestionOf found p → b ≡ true) → b ≡ false
    → HasQuestionOf found (pass_in m).number → ⊥
is_gone found at says not_so there = let bad : true ≡ false = sym (says (subst (HasQuestionOf found) (number_is at) there)) ∙ not_so in cc bad

-- a pass that has asked goes on
pub learns_then : (m : Sat) {m' m'' : Sat} {a b : Survey} {n n' : ℕ} → AsksSo a n m m' → AsksSo b n' m' m'' → AsksSo b (n + n') m m''
learns_then m {m' = m'} {m'' = m''} {b = b} {n' = n'} one two = runs_then (runs_asked b one)
    (subst (λ (z : Work × Glance × Change). Runs (as_asked b m') [] z.0 z.1 z.2 n' m'') (λ i. (one.work i, one.glance i, one.change i)) two)

-- until it decides
pub tells_then : (m m'' : Sat) {m' : Sat} {a : Survey} {n : ℕ} (groups n' : ℕ) (sure : Bool) → AsksSo a n m m' → DecidesIf groups n' m' sure m''
    → DecidesIf groups (n + n') m sure m''
tells_then m m'' {m' = m'} groups n' true one two = runs_then (runs_asked (Covered groups) one)
    (subst (λ (z : Work × Glance × Change). Runs (as_asked (Covered groups) m') ([] ▷ Full) z.0 z.1 z.2 n' m'')
    (λ i. (one.work i, one.glance i, one.change i)) two)
tells_then m m'' groups n' false one two = (two.0, learns_then m one two.1)

-- its seat goes on
pub learns_at_work : {k : Start} {p : ℕ} {m m' : Sat} {a : Survey} {n : ℕ} → IsAtWork k p m → AsksSo a n m m' → IsAtWork k p m'
learns_at_work {a = a} at one = still_at_work (at_asked a at) one

-- A pass between calls has asked
module _ (t : LastingTable) {p : LastingPass} (fits : IsPassOfTable t p) (seat : Seat (Option Closed) View) (table : seat.table_id ≡ p.seat.table_id)
    (places : seat.me.1 ≡ p.seat.me.1) where
  abbrev k : Start
  k = t.table.shared.key

  abbrev q : Bool → LastingPass
  q b = record p { seat = seat; sure = b }

  module _ (a : Survey) {xs : List Action} {n : ℕ}
      (run : Runs (as_asked a p.seat.me) xs p.seat.me.0.work p.seat.me.0.glance p.seat.me.0.change n seat.me) (b : Bool)
      (its : b ≡ true → a ≡ Covered (groups_in (range_at_start k).1)) where
    adds : Adds (opening_of k) (view_of p) xs (view_of p).doing no_use (view_of (q b))
    adds = adds_run (as_asked a p.seat.me) fits.seated.at.pass.0 run no_use

    still_fits : IsPassOfTable t (q b)
    still_fits =
        let s = fits.seated in
        let at = at_asked a s.at in
        rests_on at (q b) run (goes_on at (q b) run s.change refl (table ∙ s.table) (places ∙ s.places) (s.stock, s.next) (s.listed, its)) fits.calm fits.knows

  pub has_asked : {n : ℕ} (b : Bool) → DecidesIf (groups_in t.range_len) n p.seat.me b seat.me → HasAsked t n p b (q b)
  has_asked true tells = let same : groups_in t.range_len ≡ groups_in (range_at_start k).1 = ap (λ (z : ℕ × ℕ). groups_in z.1) t.same_range in record {
    fits = still_fits (Covered (groups_in t.range_len)) tells true (λ _. ap Covered same);
    adds = adds (Covered (groups_in t.range_len)) tells true (λ _. ap Covered same);
    steps = tells.steps;
    met = (tells.met, tells.changes);
  }
  has_asked false tells = record {
    fits = still_fits tells.0 tells.1 false (λ is. absurd (cc is));
    adds = adds tells.0 tells.1 false (λ is. absurd (cc is));
    steps = tells.1.steps;
    met = (tells.1.met, tells.1.changes);
  }

-- a pass that isn't sure has asked nothing
pub has_not_asked : (t : LastingTable) {p : LastingPass} → IsPassOfTable t p → HasAsked t 1 p false p
has_not_asked t fits = grind (arith, adds_nothing)

-- what an idle pass has added
pub asked_so : {t : LastingTable} {n : ℕ} {p p' : LastingPass} {sure : Bool} → HasAsked t n p sure p' → IsIdle (view_of p)
    → Adds (opening_of t.table.shared.key) (view_of p) (cond sure ([] ▷ Full) []) DoesNothing no_use (view_of p')
asked_so h idle = grind arith
