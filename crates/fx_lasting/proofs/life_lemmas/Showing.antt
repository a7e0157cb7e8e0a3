-- A pass shows what it has seen, and another pass learns it: the rule holds afterwards. Neither is
-- an atomic step.
use Rattle.fx_lasting.proofs.{◌≡◌, ℕ, ◌+◌, ◌≤◌, [], ◌∷◌, set, sym, refl, ap, ◌∙◌, subst, arith, some, get_elem?, ⊎_elim, at_set, sum_set}
use Rattle.fx_lasting.proofs.{contains_only, Contains, IsSeenBy, part_of_pass, LogAgrees, ViewAgrees, Agrees, Shared, Log, Start, View, IsInside}
use Rattle.fx_lasting.proofs.{Runs, IsHistory, taken_of, held_of, first_log, view_of, StockAgrees, TableId, LastingPass, IsPassOf, opening_of}
use Rattle.fx_lasting.proofs.{contains_alone, learned_so, changes_in, Seat, Closed, Option, no_use, Learns, its_pass}
use Rattle.fx_lasting.proofs.{owner_same, few_in_range, adds_so, still_pass, at_rest, counts_same, moved_one, known, seats_learn}
use Rattle.fx_lasting.specs.life.Showing.{HasLearned}
use Rattle.fx_lasting.proofs.life_lemmas.Reseating.{reseat}

-- a seat with one pass may learn the whole history
module _ (k : Start) (id : ℕ) (v w : View) (x : Log) (one : v.logs ≡ x ∷ []) (begun : v.start ≡ k) (within : IsInside v.start v.work) (s : Shared) (r : Agrees k s)
    (at : get_elem? s.views id ≡ some v) (other : ℕ) (there : get_elem? s.views other ≡ some w) where
  abbrev log : Log
  log = record x { front = r.history }

  abbrev learned : View
  learned = record v { logs = log ∷ [] }

  now_log : LogAgrees k r.history s.words r.phase r.debt r.deed v.work v.glance log
  now_log = grind (arith, ((r.holds.views id v at).logs x (contains_alone one)))

  learned_agrees : Agrees k record { words = s.words; homes = s.homes; views = set s.views id learned }
  learned_agrees = reseat k s r (set s.views id learned) record {
    taken = λ n. let t = sum_set (taken_of n) s.views id v learned at in omega arith;
    owners = owner_same s.views id v learned at refl;
    stocks = λ j u y e has. ⊎_elim (λ (t : (j ≡ id) × (learned ≡ u)). subst (λ (z : Log). StockAgrees k r.nodes.where_is z.number z.stock)
        (sym (contains_only log y (subst (λ (z : View). Contains z.logs y) (sym t.1) has))) (r.nodes.stocks id v x at (contains_alone one)))
        (λ t. r.nodes.stocks j u y t.1 has) (at_set s.views id j learned u e);
    each_view = λ j u e. ⊎_elim (λ (t : (j ≡ id) × (learned ≡ u)).
        subst (λ (z : ℕ × View). ViewAgrees k r.history s.words r.phase r.debt r.deed z.0 z.1) (λ i. (sym t.0 i, t.1 i)) record {
          logs = λ y h. subst (LogAgrees k r.history s.words r.phase r.debt r.deed v.work v.glance) (sym (contains_only log y h)) now_log;
          work = (r.holds.views id v at).work;
        }) (λ t. r.holds.views j u t.1) (at_set s.views id j learned u e);
    holds = λ n. let t = sum_set (held_of n) s.views id v learned at in omega arith;
    life = seats_learn r.life id at one refl refl refl refl record { seen = ([], refl); own = refl };
    counts = counts_same r.range (few_in_range r) (moved_one id learned at refl
        (λ y has. subst (λ (y : Log). (z : Log) × Contains v.logs z × (z.number ≡ y.number) × (z.asked ≡ y.asked)) (sym (contains_only log y has))
        (x, contains_alone one, refl, refl))) refl (refl, λ g l. refl);
  }

  learns_so : HasLearned v w learned
  learns_so = let first : first_log v.logs ≡ x = ap first_log one in let passed = its_pass r.life id at one in record {
    runs = record {
      one = (log, refl);
      number = ap (λ (z : Log). z.number) (sym first);
      seen = subst (λ (z : Log). IsSeenBy z.front r.history) (sym first) passed.seen;
      legal = subst (λ (z : Start). IsHistory z r.history) (sym begun) r.life.legal;
      own = subst (λ (z : Log). part_of_pass z.number r.history ≡ part_of_pass z.number z.front) (sym first) passed.own;
      steps = subst (λ (z : Log). x.steps ≤ z.steps + 0) (sym first) (omega arith);
      begun = subst (λ (z : Log). z.steps + 0 ≤ x.steps) (sym first) (omega arith);
      listed = ap (λ (z : Log). z.listed) (sym first);
      asked = ap (λ (z : Log). z.asked) (sym first);
      stock = ap (λ (z : Log). z.stock) (sym first);
      met = subst (λ (z : Log). z.watch.met ≤ x.watch.met) (sym first) (omega arith);
      changes = λ s. subst (λ (z : Log). changes_in s z ≤ changes_in s x) (sym first) (omega arith);
      work = refl;
      inside = within;
      glance = refl;
      change = refl;
      start = refl;
    };
    shown = known r.life other w there;
  }

  pub may_learn : (z : View) × Agrees k record { words = s.words; homes = s.homes; views = set s.views id z } × HasLearned v w z
  may_learn = (learned, learned_agrees, learns_so)

-- the pass that has learned
module _ {id : TableId} {k : Start} {p : LastingPass} (fits : IsPassOf id k p) (w : View) (seat : Seat (Option Closed) View)
    (table : seat.table_id ≡ p.seat.table_id) (slots : seat.me.1 ≡ p.seat.me.1) (learns : HasLearned p.seat.me.0 w seat.me.0) where
  runs : Runs p.seat.me [] p.seat.me.0.work p.seat.me.0.glance p.seat.me.0.change 0 seat.me
  runs = assumption learns.runs

  pub learned_pass : IsPassOf id k (record p { seat = seat }) × Learns (opening_of k) w.known (view_of p) (view_of (record p { seat = seat }))
  learned_pass = (
    still_pass fits.seated (record p { seat = seat }) (at_rest fits runs) (refl, refl) table (slots ∙ fits.seated.places) (refl, fits.seated.next) fits.knows,
    learned_so (opening_of k) w.known (view_of p) _ (adds_so fits.seated runs no_use) learns.shown,
  )
