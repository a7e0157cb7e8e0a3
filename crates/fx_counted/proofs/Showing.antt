-- A pass shows what it has seen, and another pass learns it: the rule holds afterwards. Neither is
-- an atomic step.
use Rattle.fx_counted.proofs.{◌≡◌, ℕ, ◌+◌, [], ◌∷◌, sym, refl, subst, arith, ⊎_elim, LogAgrees, Agrees, Shared, Log, Start, View, Seat, Closed}
use Rattle.fx_counted.proofs.{TableId, CountedPass, IsPassOf, contains_only, view_of, opening_of, some, get_elem?, Option, seats_pass, seats, ap}
use Rattle.fx_counted.proofs.{shown_view, total_same, ◌∙◌, ◌≢◌, Some, none, step, rest, ◌▷◌, numbered, Allocate, Full, one_number, place_of, slot_of}
use Rattle.fx_counted.proofs.{Sat, StillPlaces, HasAllocated, Tries, Stepped, Exchanges, Same, More, Idle, Placing, nat_eq, IsPlacing}
use Rattle.fx_counted.proofs.{HasFoundAllFull, List, Action, Use, ◌▷▷◌, both_uses, Between, Proceeds, set, at_set, Splits, Work, IsInside, learned_so}
use Rattle.fx_counted.proofs.{sum_set, contains_alone, Adds, no_use, PlacesNext, Change, Outside, Goes, owner_same, control_same, draws_same}
use Rattle.fx_counted.proofs.{shape_kept, adds_so, still_pass, goes_one, goes_then, held_of, doing_in, known, seats_learn}
use Rattle.fx_counted.proofs.Words.{shown}
use Rattle.fx_table.specs.Showing.{Learns}
use Rattle.fx_counted.specs.Showing.{HasLearned}
use Rattle.fx_counted.proofs.Openings.{laws}
use Rattle.fx_counted.proofs.Seats.{is_rule}
use Rattle.table_seats.proofs.Moving.{may_show as seats_show}

-- a seat with one pass may show what the pass has seen
pub may_show : (k : Start) (id : ℕ) (v : View) {x : Log} → v.logs ≡ x ∷ [] → Splits (Agrees k) id v v (shown_view seats v)
may_show k id v one = seats_show is_rule laws k id v one

-- a seat with one pass may learn the whole history
module _ (k : Start) (id : ℕ) (v w : View) (x : Log) (one : v.logs ≡ x ∷ []) (begun : v.start ≡ k) (within : IsInside v.start v.work) (s : Shared) (r : Agrees k s)
    (at : get_elem? s.views id ≡ some v) (other : ℕ) (there : get_elem? s.views other ≡ some w) where
  its_log : LogAgrees k r.history r.phase v.work x
  its_log = (r.each_view id v at).logs x (contains_alone one)

  abbrev log : Log
  log = record x { front = r.history }

  abbrev learned : View
  learned = record v { logs = log ∷ [] }

  next_same : (d : Work) → PlacesNext k x d → PlacesNext k log d
  next_same d o = grind arith

  now_log : LogAgrees k r.history r.phase v.work log
  now_log = let o = its_log in let next = next_same v.work o.next in assumption (o, next)

  learned_agrees : Agrees k record { words = s.words; homes = s.homes; views = set s.views id learned }
  learned_agrees = record {
    shape = shape_kept refl refl r.shape;
    history = r.history;
    phase = r.phase;
    life = seats_learn r.life id at one refl refl refl refl record { seen = ([], refl); own = refl };
    each_slot = r.each_slot;
    each_node = r.each_node;
    each_owner = λ n has. owner_same s.views id v learned at refl n (r.phase n) (r.each_owner n has);
    no_other = r.no_other;
    each_view = λ j u e. ⊎_elim (λ (t : (j ≡ id) × (learned ≡ u)).
        grind (arith, contains_only, now_log)) (λ t. r.each_view j u t.1) (at_set s.views id j learned u e);
    holds = λ n. let t = sum_set (held_of n) s.views id v learned at in let h = r.holds n in omega arith;
    look_ups = let t = total_same seats.logs (λ z. z.looks_left) s.views id learned at one refl refl in let h = r.look_ups in omega arith;
    control = control_same s.views id v learned at refl refl refl r.control;
    draws = draws_same s.views id v learned at one refl refl refl refl (λ n is. is) r.draws;
  }

  adds_here : Adds (opening_of k) (shown x v.work) [] (doing_in v.work) no_use (shown log v.work)
  adds_here = let passed = seats_pass r.life id at one in grind (arith, shown)

  learns_so : HasLearned v w learned
  learns_so = grind (arith, shown, adds_here, known)

  pub may_learn : (z : View) × Agrees k record { words = s.words; homes = s.homes; views = set s.views id z } × HasLearned v w z
  may_learn = (learned, learned_agrees, learns_so)

-- the pass that has learned
module _ {id : TableId} {k : Start} {p : CountedPass} (fits : IsPassOf id k p) (w : View) (seat : Seat (Option Closed) View)
    (table : seat.table_id ≡ p.seat.table_id) (slots : seat.me.1 ≡ p.seat.me.1) (learns : HasLearned p.seat.me.0 w seat.me.0) where
  goes : Goes p.seat.me [] no_use p.seat.me.0.work p.seat.me.0.change 0 seat.me
  goes = let o = learns.goes in assumption o

  outside : Goes p.seat.me [] no_use p.seat.me.0.work Outside 0 seat.me
  outside = subst (λ (c : Change). Goes p.seat.me [] no_use p.seat.me.0.work c 0 seat.me) fits.seated.change goes

  pub learned_pass : IsPassOf id k (record p { seat = seat }) × Learns (opening_of k) w.known (view_of p) (view_of (record p { seat = seat }))
  learned_pass = grind (arith, still_pass, outside, learned_so, adds_so, goes)

-- A pass that looks for a free slot: what its steps leave, one after another.

-- one step more, and some more
proceeds_one : {m m' : Sat} {xs : List Action} {a : Use} {w : Work} {c : Change} → Stepped m xs a w c m' → Proceeds m xs a w c m'
proceeds_one s = (1, goes_one s)

proceeds_then : {m m' m'' : Sat} {xs ys : List Action} {a b : Use} {w w' : Work} {c c' : Change} → Proceeds m xs a w c m'
    → Proceeds m' ys b w' c' m'' → Proceeds m (xs ▷▷ ys) (both_uses a b) w' c' m''
proceeds_then g h = (g.0 + h.0, goes_then g.1 h.1)

-- a step that leaves the pass at its work
pub one_still : {m m' : Sat} {n : ℕ} {c : Change} → m.0.work ≡ Placing n → Stepped m [] no_use m.0.work c m' → m'.1 ≡ m.1 → StillPlaces n c m m'
one_still {m} {m'} {n} {c} work s same = (proceeds_one (subst (λ (w : Work). Stepped m [] no_use w c m') work s), same)

pub still_then : {m m' m'' : Sat} {n : ℕ} {c c' : Change} → StillPlaces n c m m' → StillPlaces n c' m' m'' → StillPlaces n c' m m''
still_then a b = (proceeds_then a.0 b.0, b.1 ∙ a.1)

pub allocated_then : {m m' m'' : Sat} {n slot : ℕ} {file : Closed} {c c' : Change} → StillPlaces n c m m'
    → HasAllocated n file slot c' m' m'' → HasAllocated n file slot c' m m''
allocated_then a b = (proceeds_then a.0 b.0, b.1)

pub full_then : {m m' m'' : Sat} {n : ℕ} {c : Change} → StillPlaces n c m m' → HasFoundAllFull n m' m'' → HasFoundAllFull n m m''
full_then a b = (proceeds_then a.0 b.0, b.1 ∙ a.1)

-- the pass goes on placing the file
pub still_placing : {k : Start} {m m' : Sat} {n : ℕ} {file : Closed} {c : Change} → IsPlacing k n file m → StillPlaces n c m m'
    → IsPlacing k n file m'
still_placing p s = grind arith

-- the test that the word is as it was loaded
tries_by : {m m' : Sat} {n slot : ℕ} {file : Closed} {a b : ℕ} → (a ≡ b → HasAllocated n file slot More m m')
    → (a ≢ b → StillPlaces n Same m m') → Tries n file slot m (nat_eq a b) m'
tries_by {m} {m'} {n} {slot} {file} {a} {b} won lost = grind arith

-- a load that finds a free slot, and an exchange
pub exchange_tried : {k : Start} {m m' m'' : Sat} {n slot i slots found old new : ℕ} {file : Closed} → IsPlacing k n file m
    → slot_of i ≡ slot → Stepped m [] no_use m.0.work Same m' → m'.1 ≡ m.1
    → Exchanges (step slots i old new none) m' found m'' → Tries n file slot m (nat_eq found old) m''
exchange_tried {m} {m'} {m''} {n} {slot} {i} {found} {old} {file} p here s same e =
    let loaded = one_still p.work s same in let work = s.work ∙ p.work in let place = same ∙ p.place in let start = s.start ∙ p.at.pass.0 in
    let at_home : m'.1 ≡ (place_of m'.0.start n, Some file) ∷ [] = place ∙ λ i. (place_of (sym start i) n, Some file) ∷ [] in
    tries_by (λ is. let w = e.wins n file work at_home is in
    let put = subst (λ (z : ℕ). Stepped m' ([] ▷ Allocate z (numbered n file)) one_number (Between Idle) More m'') here w.0 in
    allocated_then loaded (proceeds_one put, w.1 ∙ ap rest place))
    (λ other. let l = e.loses other in
    still_then loaded (grind (arith, one_still)))

-- a pass that has reported the slot that it found
pub allocated_told : {m m' m'' : Sat} {n slot : ℕ} {file : Closed} → HasAllocated n file slot More m m'
    → Goes m' [] no_use m'.0.work Outside 1 m'' → m''.1 ≡ m'.1 → HasAllocated n file slot Outside m m''
allocated_told {m} {m'} {m''} a goes same =
    (proceeds_then a.0 (1, subst (λ (w : Work). Goes m' [] no_use w Outside 1 m'') a.0.1.work goes), same ∙ a.1)

-- a pass that was answered that every slot is full, and one that wasn't
pub answered_full : {m m' m'' : Sat} {n : ℕ} → StillPlaces n Same m m' → Stepped m' ([] ▷ Full) no_use m'.0.work Outside m'' → m''.1 ≡ m'.1
    → HasFoundAllFull n m m''
answered_full {m} {m'} {m''} still s same =
    full_then still (proceeds_one (subst (λ (w : Work). Stepped m' ([] ▷ Full) no_use w Outside m'') still.0.1.work s), same)

pub answered_not : {m m' m'' : Sat} {n : ℕ} → StillPlaces n Same m m' → Stepped m' [] no_use m'.0.work Outside m'' → m''.1 ≡ m'.1
    → StillPlaces n Outside m m''
answered_not still s same = still_then still (one_still still.0.1.work s same)
