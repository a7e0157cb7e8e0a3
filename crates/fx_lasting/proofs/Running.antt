-- Some steps in a row, and the seat after them.
use Rattle.fx_lasting.proofs.Words.{TakesAs, HoldsOn, as_listed, as_asked, as_stocked, as_swapped, IsStockOf, Survey, true, set, set_here, set_else, length-set}
use Rattle.fx_lasting.proofs.Words.{stands_at, get_elem?, some, some-injective, ◌≡◌, ◌≤◌, ℕ, ◌+◌, List, [], ◌++◌, map, sym, ap, ◌∙◌, subst, arith, ◌▷▷◌, Action}
use Rattle.fx_lasting.proofs.Words.{Event, Sat, Stepped, Goes, Runs, Change, IsAtWork, Log, first_log, ◌∷◌, ◌-◌, ◌<◌, dite, ℕ_discrete, Option, Some, None}
use Rattle.fx_lasting.proofs.Words.{Closed, File, ◌▷◌, Release, Close, Look, Idle, Cold, TakesOut, LettingGo, glance_after, LetsChargeGo, LetsFileGo, HasPlace}
use Rattle.fx_lasting.proofs.Words.{IsReleasing, HasToLetGo, nodes_of, full_name_in, file_node_in, At, Glance, Work, Start, IsHistory, pass_in, pass_event}
use Rattle.fx_lasting.proofs.Words.{part_of_pass, IsInside, rested, append_assoc, map-append, seen_further, Bool}

pub runs_one : {m m' : Sat} {xs : List Action} {w : Work} {g : Glance} {c : Change} → Stepped m xs w g c m' → Runs m xs w g c 1 m'
runs_one {m} {m'} s = let begun : (pass_in m).steps + 0 ≤ (pass_in m').steps = (let e = s.begun in omega arith) in assumption (s, begun)

pub runs_then : {m m' m'' : Sat} {xs ys : List Action} {w w' : Work} {g g' : Glance} {c c' : Change} {n n' : ℕ} → Runs m xs w g c n m'
    → Runs m' ys w' g' c' n' m'' → Runs m (xs ▷▷ ys) w' g' c' (n + n') m''
runs_then {m} {m'} {m''} {xs} {ys} {w' = w'} {n = n} {n' = n'} a b = record {
  one = b.one;
  number = b.number ∙ a.number;
  seen = seen_further (pass_in m).front (pass_in m').front (pass_in m'').front a.seen b.seen;
  legal = subst (λ (k : Start). IsHistory k (pass_in m'').front) a.start b.legal;
  own = let same : (λ (z : Action). pass_event (pass_in m') z) ≡ (λ (z : Action). pass_event (pass_in m) z) =
      λ i z. record { pass = a.number i; chain = 0; action = z } in
      ap (λ (p : ℕ). part_of_pass p (pass_in m'').front) (sym a.number) ∙ (b.own
      ∙ ((λ i. map (same i) ys ++ part_of_pass (a.number i) (pass_in m').front)
      ∙ (ap (λ (l : List Event). map (pass_event (pass_in m)) ys ++ l) a.own
      ∙ (sym (append_assoc (map (pass_event (pass_in m)) ys) (map (pass_event (pass_in m)) xs) (part_of_pass (pass_in m).number (pass_in m).front))
      ∙ ap (λ (l : List Event). l ++ part_of_pass (pass_in m).number (pass_in m).front) (sym (map-append (pass_event (pass_in m)) ys xs))))));
  steps = let p = a.steps in let q = b.steps in omega arith;
  begun = let p = a.begun in let q = b.begun in omega arith;
  listed = b.listed ∙ a.listed;
  asked = b.asked ∙ a.asked;
  stock = b.stock ∙ a.stock;
  met = let p = a.met in let q = b.met in omega arith;
  changes = λ s. let p = a.changes s in let q = b.changes s in omega arith;
  work = b.work;
  inside = subst (λ (k : Start). IsInside k w') a.start b.inside;
  glance = b.glance;
  change = b.change;
  start = b.start ∙ a.start;
}

-- a step that moves no place
pub runs_goes : {m m' : Sat} {xs : List Action} {w : Work} {g : Glance} → Goes m xs w g m' → Runs m xs w g m.0.change 1 m'
runs_goes g = runs_one g.stepped

-- a pass goes on where some steps left it
pub does_then : {m m' m'' : Sat} {xs ys : List Action} {w w' : Work} {g : Glance} {c : Change} {n n' : ℕ} → Runs m xs w g c n m'
    → Runs m' ys w' m'.0.glance m'.0.change n' m'' → Runs m (xs ▷▷ ys) w' g c (n + n') m''
does_then {m' = m'} {m'' = m''} {ys = ys} {w' = w'} {n' = n'} a b =
    runs_then a (subst (λ (z : Glance × Change). Runs m' ys w' z.0 z.1 n' m'') (λ i. (a.glance i, a.change i)) b)

-- the pass has other places now
pub runs_carried : {m m' : Sat} {xs : List Action} {w : Work} {g : Glance} {c : Change} {n : ℕ} (places : List (ℕ × Option Closed))
    → Runs m xs w g c n m' → Runs m xs w g c n (m'.0, places)
runs_carried places r = assumption r

-- at most as many steps, or more
pub runs_within : {m m' : Sat} {xs : List Action} {w : Work} {g : Glance} {c : Change} {n n' : ℕ} → n ≤ n' → Runs m xs w g c n m'
    → Runs m xs w g c n' m'
runs_within few r = grind arith

module _ {k : Start} {p : ℕ} {m : Sat} (at : IsAtWork k p m) where
  -- no step
  pub runs_none : (n : ℕ) → Runs m [] m.0.work m.0.glance m.0.change n m
  runs_none n = grind arith

  pub number_is : (pass_in m).number ≡ p
  number_is = ap (λ (l : List Log). (first_log l).number) at.pass.1 ∙ at.its_number

  pub stock_is : (pass_in m).stock ≡ at.log.stock
  stock_is = ap (λ (l : List Log). (first_log l).stock) at.pass.1

  pub listed_is : at.log.listed ≡ (pass_in m).listed
  listed_is = sym (ap (λ (l : List Log). (first_log l).listed) at.pass.1)

  -- the seat goes on
  pub still_at_work : {m' : Sat} {xs : List Action} {w : Work} {g : Glance} {c : Change} {n : ℕ} → Runs m xs w g c n m' → IsAtWork k p m'
  still_at_work r = grind (arith, number_is, stock_is)

  pub own_stock : IsStockOf k p (pass_in m).stock
  own_stock = subst (IsStockOf k p) (sym stock_is) at.stock

  -- the seat, where the pass's list bit, question and stock are these
  pub at_work_as : (l : Bool) (q : Survey) (s : List ℕ) → IsStockOf k p s
      → IsAtWork k p (record m.0 { logs = record (pass_in m) { listed = l; asked = q; stock = s } ∷ [] }, m.1)
  at_work_as l q s its = grind (arith, number_is)

  -- what it works with is the table's
  pub its_inside : {w : Work} → m.0.work ≡ w → IsInside k w
  its_inside is = subst (IsInside k) is at.inside

-- the seat of a pass that was listed
pub at_listed : {k : Start} {p : ℕ} {m : Sat} → IsAtWork k p m → IsAtWork k p (as_listed m)
at_listed {m = m} at = at_work_as at true (pass_in m).asked (pass_in m).stock (own_stock at)

-- the seat of a pass that has asked
pub at_asked : {k : Start} {p : ℕ} {m : Sat} (a : Survey) → IsAtWork k p m → IsAtWork k p (as_asked a m)
at_asked {m = m} a at = at_work_as at (pass_in m).listed a (pass_in m).stock (own_stock at)

-- whatever a pass has asked, it makes the same steps
pub runs_asked : {m m' : Sat} {xs : List Action} {w : Work} {g : Glance} {c : Change} {n : ℕ} (a : Survey) → Runs m xs w g c n m'
    → Runs (as_asked a m) xs w g c n (as_asked a m')
runs_asked a r = grind arith

-- whatever a pass has in stock, it makes the same steps
pub runs_stocked : {m m' : Sat} {xs : List Action} {w : Work} {g : Glance} {c : Change} {n : ℕ} (s : List ℕ) → Runs m xs w g c n m'
    → Runs (as_stocked s m) xs w g c n (as_stocked s m')
runs_stocked s r = grind arith

-- the seat of a pass that has swapped a node of its stock for another one
pub at_swapped : {k : Start} {p : ℕ} {m : Sat} → IsAtWork k p m → (entry node : ℕ) → node < nodes_of k → IsAtWork k p (as_swapped entry node m)
at_swapped {k} {p} {m} at entry node inside = at_work_as at (pass_in m).listed (pass_in m).asked (set (pass_in m).stock entry node) stock_of
  where
    its : IsStockOf k p (pass_in m).stock
    its = own_stock at

    stock_of : IsStockOf k p (set (pass_in m).stock entry node)
    stock_of = record {
      count = length-set (pass_in m).stock entry node ∙ its.count;
      inside = λ e n is. dite (ℕ_discrete e entry)
          (λ same. let here : get_elem? (set (pass_in m).stock entry node) entry ≡ some node = set_here (pass_in m).stock entry node
          (let a = length-set (pass_in m).stock entry node in omega (arith, (stands_at (set (pass_in m).stock entry node) e n is).0, same, a)) in
          let z : node ≡ n = some-injective node n (sym here ∙ (ap (get_elem? (set (pass_in m).stock entry node)) (sym same) ∙ is)) in
          subst (λ (i : ℕ). i < nodes_of k) z inside)
          (λ away. its.inside e n (sym (set_else (pass_in m).stock entry e node away) ∙ is));
    }

-- a pass that has swapped a node of its stock goes on where some steps left it
pub swapped_then : {m m' m'' : Sat} {xs ys : List Action} {w w' : Work} {g g' : Glance} {c c' : Change} {n n' : ℕ} (entry node : ℕ) → Runs m xs w g c n m'
    → Runs (as_swapped entry node m') ys w' g' c' n' m'' → Runs (as_swapped entry node m) (xs ▷▷ ys) w' g' c' (n + n') m''
swapped_then {m = m} {m' = m'} {m'' = m''} {ys = ys} {w' = w'} {g' = g'} {c' = c'} {n' = n'} entry node a b =
    runs_then (runs_stocked (set (pass_in m).stock entry node) a)
    (subst (λ (l : List ℕ). Runs (as_stocked (set l entry node) m') ys w' g' c' n' m'') a.stock b)

-- a pass in the same change looks on
pub looks_then : {m m' m'' : Sat} {xs ys : List Action} {w w' : Work} {g g' : Glance} {c : Change} {n n' : ℕ} → Runs m xs w g c n m'
    → Runs m' ys w' g' m'.0.change n' m'' → Runs m (xs ▷▷ ys) w' g' c (n + n') m''
looks_then {m' = m'} {m'' = m''} {ys = ys} {w' = w'} {g' = g'} {n' = n'} a b =
    runs_then a (subst (λ (z : Change). Runs m' ys w' g' z n' m'') a.change b)

-- a pass with the same work looks on
pub stays_then : {m m' m'' : Sat} {xs ys : List Action} {w : Work} {g g' : Glance} {c : Change} {n n' : ℕ} → Runs m xs w g c n m'
    → Runs m' ys m'.0.work g' m'.0.change n' m'' → Runs m (xs ▷▷ ys) w g' c (n + n') m''
stays_then {m' = m'} {m'' = m''} {ys = ys} {g' = g'} {n' = n'} a b = looks_then a (subst (λ (z : Work). Runs m' ys z g' m'.0.change n' m'') a.work b)

-- a pass that looks nothing up begins or ends a change
pub turns_then : {m m' m'' : Sat} {xs ys : List Action} {w : Work} {g : Glance} {c c' : Change} {n n' : ℕ} → Runs m xs w g c n m'
    → Runs m' ys m'.0.work m'.0.glance c' n' m'' → Runs m (xs ▷▷ ys) w g c' (n + n') m''
turns_then {m' = m'} {m'' = m''} {ys = ys} {c' = c'} {n' = n'} a b =
    runs_then a (subst (λ (z : Work × Glance). Runs m' ys z.0 z.1 c' n' m'') (λ i. (a.work i, a.glance i)) b)

-- a pass that has let a charge go, or a file
pub charge_then : {m m' : Sat} (m'' : Sat) {w : Work} {n : ℕ} (n' : ℕ) (r : Option Closed) → Runs m [] w m.0.glance m.0.change n m' → LetsChargeGo m' n' r m''
    → LetsChargeGo m (n + n') r m''
charge_then m'' n' None a b = does_then a b
charge_then m'' n' (Some file) a b = (b.0, b.1, does_then a b.2)

pub file_then : {m m' : Sat} (m'' : Sat) {w : Work} (f : File) {n : ℕ} (n' : ℕ) (r : Option Closed) → Runs m [] w m.0.glance m.0.change n m'
    → LetsFileGo m' f n' r m'' → LetsFileGo m f (n + n') r m''
file_then m'' f n' None a b = does_then a b
file_then m'' f n' (Some file) a b = (b.0, does_then a b.1)

-- the file of a pass is closed: the pass has its place, and takes the file out
pub out_place : {m m' : Sat} {xs : List Action} {f : File} {n : ℕ} → m.1 ≡ [] → TakesOut m xs f n m' → HasPlace n (Some f.identity) m'
out_place empty out = grind arith

pub out_and_home : {m m' m'' : Sat} {xs : List Action} {f : File} {n : ℕ} → TakesOut m xs f n m'
    → Runs m' [] (rested m'.0.work) m'.0.glance m'.0.change 1 m'' → Runs m (xs ▷ Close f) Idle m.0.glance m.0.change 2 m''
out_and_home {m' = m'} {m'' = m''} out home = does_then (runs_one out.stepped)
    (subst (λ (w : Work). Runs m' [] (rested w) m'.0.glance m'.0.change 1 m'') out.stepped.work home)

-- a pass lets a charge or a file go
module _ {st : At} {m m' : Sat} {n found : ℕ} (did : LettingGo st m found m') where
  pub releases_out : {f : File} → IsReleasing m.0.work f n → found ≡ 2 → TakesOut m ([] ▷ Release f) f n m'
  releases_out has is = grind arith

  -- the pass has the place of the closed file
  pub goes_out : HasToLetGo m.0.work n → found ≡ 2 → (xs : List Action) × (f : File) × TakesOut m xs f n m'
  goes_out has is = grind arith

-- the node of the charge or the file that a pass drops is one of the table
pub let_go_inside : {k : Start} {p n : ℕ} {m : Sat} → IsAtWork k p m → HasToLetGo m.0.work n → n < nodes_of k
let_go_inside h1 has = grind (arith, its_inside)

-- the node whose file it holds is the table's
pub held_inside : {k : Start} {p n : ℕ} {f : File} {m : Sat} → IsAtWork k p m → HoldsOn m.0.work f n → n < nodes_of k
held_inside h1 holds = grind (arith, its_inside)

-- a pass takes what a slot names: a file, or nothing
pub took : {none : Work} {holding : File → ℕ → Work} {st : At} {m m' : Sat} {slot found : ℕ} → m.0.glance ≡ Cold slot → TakesAs none holding st m found m'
    → (xs : List Action) × (w : Work) × Goes m xs w (glance_after m.0.start.passes slot found) m'
took {none = none} {holding = holding} {slot = slot} {found = found} cold did = dite (ℕ_discrete (full_name_in found) 0) (λ e. ([] ▷ Look slot None, none, did.empty slot cold e))
    (λ some. let h = did.holds slot (full_name_in found - 1) cold (omega (arith, some)) in ([] ▷ Look slot (Some h.0), holding h.0 (full_name_in found - 1), h.2))

-- the name in a word
pub no_name : (word : ℕ) → None ≡ file_node_in word → full_name_in word ≡ 0
no_name word is = grind arith

pub its_name : (word n : ℕ) → Some n ≡ file_node_in word → full_name_in word ≡ n + 1
its_name word n is = grind arith

-- a pass that has done nothing more than its work
pub placed_none : {k : Start} {p : ℕ} {m : Sat} → IsAtWork k p m → {w : Work} → m.0.work ≡ w → Runs m [] w m.0.glance m.0.change 0 m
placed_none {m = m} at is = subst (λ (z : Work). Runs m [] z m.0.glance m.0.change 0 m) is (runs_none at 0)
