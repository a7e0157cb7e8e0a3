-- A pass between two calls, and what a call adds to it.
use Rattle.fx_lasting.proofs.Words.{Renewing, Relieving, HoldsAlone, MeetsMore, as_listed, get_elem?, some, ◌≡◌, ℕ, ◌+◌, ◌-◌, ◌≤◌, ◌<◌, ◌^◌, ◌⊎◌}
use Rattle.fx_lasting.proofs.Words.{List, [], sym, refl, ap, ◌∙◌, subst, arith, Bool, true, false, Option, Some, None, Start, Sat, Work, Glance}
use Rattle.fx_lasting.proofs.Words.{Change, Nothing, Outside, Runs, IsAtWork, as_swapped, nodes_of, set, part_of_pass, TableId, Idle, Counted}
use Rattle.fx_lasting.proofs.Words.{Guarded, Retiring, Keeping, LastingPass, LastingTable, IsSeatOf, IsPassOf, IsPassOfTable, IsBetweenCalls, Knows}
use Rattle.fx_lasting.proofs.Words.{MayPlace, opening_of, view_of, pass_of, pass_in, numbers_of_pass, doing_in, hold_at, retired_at, retiring_work}
use Rattle.fx_lasting.proofs.Words.{IsHistory, Action, ◌▷◌, Put, Take, Close, Look, File, Closed, numbered, full_name_in, count_in, LetsFileGo}
use Rattle.fx_lasting.proofs.Words.{option_map, Result, Ok, Err, ok_or, is_some, not, ◌≢◌, not-false, Use, no_use, one_number, one_look, Adds}
use Rattle.fx_lasting.proofs.Words.{IsNewFile, Placed, Taken, ReleasesFile, LookedAfter, LookedUp, adds_then, HoldsOn, new_round, LetsChargeGo}
use Rattle.fx_lasting.proofs.Words.{Announced, first_visit, inl, inr, Opening, PassView, IsIdle, IsFileRemoval, Doing, DoesNothing, Holding, Hold}
use Rattle.fx_lasting.proofs.Words.{Retired, IsIdleSeatOf, HasNoFile, is_in, account, uncounted, group_of, Covered, groups_in, range_at_start}
use Rattle.fx_lasting.proofs.Words.{FreesFirst, HasRemoved}
use Rattle.fx_table.specs.declared.values.Doing.TheVariants.{Retiring as Retires}
use Rattle.fx_table.specs.declared.values.Empty.{Empty}
use Rattle.fx_table.specs.declared.values.LookFault.{LookFault}
use Rattle.fx_table.specs.declared.values.LookFault.TheVariants.{Spent, Empty as EmptySlot}
use Rattle.fx_lasting.proofs.Running.{does_then, still_at_work, number_is, at_listed, at_swapped}

-- the meetings and the changes that a pass found, over two calls
pub meets_then : (p q r : LastingPass) → MeetsMore p q → MeetsMore q r → MeetsMore p r
meets_then p q r a b = (omega (arith, a.0, b.0), λ s. let x = a.1 s in let y = b.1 s in omega arith)

-- the changes that a seat's steps make to its view
pub adds_run : (m : Sat) {k : Start} → m.0.start ≡ k → {m' : Sat} {xs : List Action} {w : Work} {g : Glance} {c : Change} {n : ℕ} → Runs m xs w g c n m'
    → (used : Use) → Adds (opening_of k) (pass_of m.0) xs (doing_in w) used (pass_of m'.0)
adds_run m {k} started {m'} r used = record {
  seen = r.seen;
  front = record { legal = subst (λ (z : Start). IsHistory z (pass_in m').front) started r.legal; mine = refl };
  own = ap (λ (n : ℕ). part_of_pass n (pass_in m').front) r.number ∙ r.own;
  now = ap doing_in r.work;
  number = r.number;
  chain = refl;
  drawn = refl;
  no_chains_left = refl;
  numbers_left = λ i. numbers_of_pass (r.start i).installing (r.number i);
  looks_left = refl;
}

-- A pass whose seat has made some steps from here, as a pass with this number
module _ {id : TableId} {k : Start} {number : ℕ} {m : Sat} (at : IsAtWork k number m) (q : LastingPass) {xs : List Action} {w : Work} {g : Glance}
    {c : Change} {n : ℕ} (r : Runs m xs w g c n q.seat.me) where
  -- its fields fit its work
  pub goes_on : c ≡ Outside → q.number ≡ number → q.seat.table_id ≡ id → q.seat.me.1 ≡ []
      → (q.stock.items ≡ (pass_in m).stock) × (q.number ≤ k.installing → q.next_entry < k.passes)
      → (q.listed ≡ (pass_in m).listed) × (q.sure ≡ true → (pass_in m).asked ≡ Covered (groups_in (range_at_start k).1)) → IsSeatOf id k q
  goes_on out same table places stocked flags = grind (arith, still_at_work)

  -- it is between two calls
  pub rests_on : IsSeatOf id k q → g ≡ Nothing → Knows k.passes q w → IsPassOf id k q
  rests_on seated calm knows = record {
    seated = seated;
    calm = r.glance ∙ calm;
    knows = subst (Knows k.passes q) (sym r.work) knows;
    front = (adds_run m at.pass.0 r no_use).front;
  }

module _ {id : TableId} {k : Start} {p : LastingPass} (seated : IsSeatOf id k p) where
  -- the changes that a pass's steps make to its view
  pub adds_so : {m' : Sat} {xs : List Action} {w : Work} {g : Glance} {c : Change} {n : ℕ} → Runs p.seat.me xs w g c n m' → (used : Use)
      → Adds (opening_of k) (view_of p) xs (doing_in w) used (pass_of m'.0)
  adds_so = adds_run p.seat.me seated.at.pass.0

  -- a pass that is listed, and sure, as it was
  pub same_flags : (q : LastingPass) → ◌≡◌ {A = Bool × Bool} (q.listed, q.sure) (p.listed, p.sure)
      → (q.listed ≡ (pass_in p.seat.me).listed) × (q.sure ≡ true → (pass_in p.seat.me).asked ≡ Covered (groups_in (range_at_start k).1))
  same_flags q same = grind arith

  -- a pass whose seat has made some steps, and whose fields fit its work
  pub still_seat : (q : LastingPass) {xs : List Action} {w : Work} {g : Glance} {n : ℕ} → Runs p.seat.me xs w g Outside n q.seat.me
      → (q.number ≡ p.number) × ◌≡◌ {A = Bool × Bool} (q.listed, q.sure) (p.listed, p.sure) → q.seat.table_id ≡ p.seat.table_id → q.seat.me.1 ≡ []
      → (q.stock.items ≡ p.stock.items) × (q.number ≤ k.installing → q.next_entry < k.passes) → IsSeatOf id k q
  still_seat q r same table places stocked = grind (arith, goes_on, same_flags)

  pub still_pass : (q : LastingPass) {xs : List Action} {w : Work} {n : ℕ} → Runs p.seat.me xs w Nothing Outside n q.seat.me
      → (q.number ≡ p.number) × ◌≡◌ {A = Bool × Bool} (q.listed, q.sure) (p.listed, p.sure) → q.seat.table_id ≡ p.seat.table_id → q.seat.me.1 ≡ []
      → (q.stock.items ≡ p.stock.items) × (q.number ≤ k.installing → q.next_entry < k.passes) → Knows k.passes q w → IsPassOf id k q
  still_pass q r same table places stocked = rests_on seated.at q r (still_seat q r same table places stocked) refl

-- a pass that has put another node at an entry of its stock
module _ {id : TableId} {k : Start} {p : LastingPass} (seated : IsSeatOf id k p) (entry node : ℕ) (inside : node < nodes_of k) where
  pub adds_swapped : {m' : Sat} {xs : List Action} {w : Work} {g : Glance} {c : Change} {n : ℕ} → Runs (as_swapped entry node p.seat.me) xs w g c n m' → (used : Use)
      → Adds (opening_of k) (view_of p) xs (doing_in w) used (pass_of m'.0)
  adds_swapped = adds_run (as_swapped entry node p.seat.me) seated.at.pass.0

  pub swapped_pass : (q : LastingPass) {xs : List Action} {w : Work} {n : ℕ} → Runs (as_swapped entry node p.seat.me) xs w Nothing Outside n q.seat.me
      → (q.number ≡ p.number) × ◌≡◌ {A = Bool × Bool} (q.listed, q.sure) (p.listed, p.sure) → q.seat.table_id ≡ p.seat.table_id → q.seat.me.1 ≡ []
      → (q.stock.items ≡ set p.stock.items entry node) × (q.number ≤ k.installing → q.next_entry < k.passes)
      → Knows k.passes q w → IsPassOf id k q
  swapped_pass q r same table places stocked =
      let at = at_swapped seated.at entry node inside in
      rests_on at q r (goes_on at q r refl same.0 (table ∙ seated.table) places
      (stocked.0 ∙ ap (λ (l : List ℕ). set l entry node) seated.stock, stocked.1) (same_flags seated q same.1)) refl

-- it looks nothing up, outside a change
pub swapped_rest : {id : TableId} {k : Start} {p : LastingPass} → IsPassOf id k p → (entry node : ℕ) → {m' : Sat} {xs : List Action} {w : Work} {n : ℕ}
    → Runs (as_swapped entry node p.seat.me) xs w p.seat.me.0.glance p.seat.me.0.change n m' → Runs (as_swapped entry node p.seat.me) xs w Nothing Outside n m'
swapped_rest fits entry node r = grind arith

-- a pass that was listed
module _ {id : TableId} {k : Start} {p : LastingPass} (seated : IsSeatOf id k p) where
  -- it has added nothing
  pub adds_listed : {m' : Sat} {g : Glance} {c : Change} {n : ℕ} → p.seat.me.0.work ≡ Idle → Runs (as_listed p.seat.me) [] p.seat.me.0.work g c n m'
      → Adds (opening_of k) (view_of p) [] DoesNothing no_use (pass_of m'.0)
  adds_listed {m'} is r = subst (λ (d : Doing). Adds (opening_of k) (view_of p) [] d no_use (pass_of m'.0)) (ap doing_in is)
      (adds_run (as_listed p.seat.me) seated.at.pass.0 r no_use)

  -- its seat goes on
  pub listed_seat : (q : LastingPass) {w : Work} {g : Glance} {n : ℕ} → Runs (as_listed p.seat.me) [] w g Outside n q.seat.me
      → (q.number ≡ p.number) × ◌≡◌ {A = Bool × Bool} (q.listed, q.sure) (true, p.sure) → q.seat.table_id ≡ p.seat.table_id → q.seat.me.1 ≡ []
      → (q.stock.items ≡ p.stock.items) × (q.number ≤ k.installing → q.next_entry < k.passes) → IsSeatOf id k q
  listed_seat q r same table places stocked = grind (arith, goes_on, at_listed)

-- a pass that holds a file does so by a take or by its hold word
pub holds_on : (w : Work) {f : File} {hold : Hold} → doing_in w ≡ Holding f hold → HoldsOn w f hold.node
holds_on (Counted g n) {f} {hold} is = let same : g ≡ f = cc is in let value : hold_at g n ≡ hold = cc is in
    inl (λ i. Counted (same i) (ap (λ (h : Hold). h.node) value i))
holds_on (Guarded g n) {f} {hold} is = let same : g ≡ f = cc is in let value : hold_at g n ≡ hold = cc is in
    inr (inl (λ i. Guarded (same i) (ap (λ (h : Hold). h.node) value i)))
holds_on (Renewing g n own l) {f} {hold} is = let same : g ≡ f = cc is in let value : hold_at g n ≡ hold = cc is in
    inr (inr (own, l, inl (λ i. Renewing (same i) (ap (λ (h : Hold). h.node) value i) own l)))
holds_on (Relieving g n own l) {f} {hold} is = let same : g ≡ f = cc is in let value : hold_at g n ≡ hold = cc is in
    inr (inr (own, l, inr (λ i. Relieving (same i) (ap (λ (h : Hold). h.node) value i) own l)))
holds_on _ is = absurd (cc is)

-- a pass that looks nothing up, outside a change
pub at_rest : {id : TableId} {k : Start} {p : LastingPass} → IsPassOf id k p → {m' : Sat} {xs : List Action} {w : Work} {n : ℕ}
    → Runs p.seat.me xs w p.seat.me.0.glance p.seat.me.0.change n m' → Runs p.seat.me xs w Nothing Outside n m'
at_rest fits r = grind arith

-- a pass that has a file to retire, and has visited nobody yet
abbrev pub IsToRetire : ℕ → ℕ → File → Retired → Work → Type 0
IsToRetire passes visit f retired w = (w ≡ Retiring f retired.node retired.takes (new_round visit) 0) × (retired.takes < 2 ^ 20)
    × ((visit ≡ 1) ⊎ (visit ≡ passes + 1))

-- The work of a pass between two calls, by its activity
module _ (passes visit entry : ℕ) (idle guarded keeps : Bool) (stock : List ℕ) where
  abbrev Is : Work → Type 0
  Is = IsBetweenCalls passes idle guarded keeps visit stock entry

  work_may : (w : Work) → Is w → doing_in w ≡ DoesNothing → MayPlace keeps stock entry w
  work_may w knows is = grind arith

  work_flag : (w : Work) → Is w → doing_in w ≡ DoesNothing → idle ≡ true
  work_flag w knows is = grind arith

  -- a pass with a file keeps no node
  work_unkept : (w : Work) → Is w → (doing_in w ≡ DoesNothing → ⊥) → keeps ≡ false
  work_unkept w knows busy = grind arith

  -- a pass that keeps a node is idle, and the node is at its next entry
  work_kept : (w : Work) → Is w → keeps ≡ true → (n : ℕ) × (lost : ℕ) × (w ≡ Keeping n lost) × (idle ≡ true) × (get_elem? stock entry ≡ some n)
  work_kept w knows is = grind arith

  module _ (f : File) (hold : Hold) where
    work_guarded : (w : Work) → Is w → doing_in w ≡ Holding f hold → guarded ≡ true → w ≡ Guarded f hold.node
    work_guarded w knows is guards = grind arith

    work_counted : (w : Work) → Is w → doing_in w ≡ Holding f hold → guarded ≡ false → w ≡ Counted f hold.node
    work_counted w knows is guards = grind arith

  work_retiring : (f : File) (retired : Retired) (w : Work) → Is w → doing_in w ≡ Retires f retired → IsToRetire passes visit f retired w
  work_retiring f retired w knows is = grind arith

module _ {id : TableId} {k : Start} {p : LastingPass} (fits : IsPassOf id k p) where
  pub its_place : IsIdle (view_of p) → MayPlace p.keeps p.stock.items p.next_entry p.seat.me.0.work
  its_place = work_may k.passes p.next_visit p.next_entry p.idle p.guarded p.keeps p.stock.items p.seat.me.0.work fits.knows

  pub its_idle : IsIdle (view_of p) → p.keeps ≡ false → HasNoFile p.seat.me.0.work
  its_idle idle unkept = subst (λ (b : Bool). MayPlace b p.stock.items p.next_entry p.seat.me.0.work) unkept (its_place idle)

  pub its_flag : IsIdle (view_of p) → p.idle ≡ true
  its_flag = work_flag k.passes p.next_visit p.next_entry p.idle p.guarded p.keeps p.stock.items p.seat.me.0.work fits.knows

  pub its_unkept : ((view_of p).doing ≡ DoesNothing → ⊥) → p.keeps ≡ false
  its_unkept = work_unkept k.passes p.next_visit p.next_entry p.idle p.guarded p.keeps p.stock.items p.seat.me.0.work fits.knows

  pub its_kept : p.keeps ≡ true
      → (n : ℕ) × (lost : ℕ) × (p.seat.me.0.work ≡ Keeping n lost) × (p.idle ≡ true) × (get_elem? p.stock.items p.next_entry ≡ some n)
  its_kept = work_kept k.passes p.next_visit p.next_entry p.idle p.guarded p.keeps p.stock.items p.seat.me.0.work fits.knows

  pub its_guarded : {f : File} {hold : Hold} → (view_of p).doing ≡ Holding f hold → p.guarded ≡ true → p.seat.me.0.work ≡ Guarded f hold.node
  its_guarded {f} {hold} = work_guarded k.passes p.next_visit p.next_entry p.idle p.guarded p.keeps p.stock.items f hold p.seat.me.0.work fits.knows

  pub its_counted : {f : File} {hold : Hold} → (view_of p).doing ≡ Holding f hold → p.guarded ≡ false → p.seat.me.0.work ≡ Counted f hold.node
  its_counted {f} {hold} = work_counted k.passes p.next_visit p.next_entry p.idle p.guarded p.keeps p.stock.items f hold p.seat.me.0.work fits.knows

  pub holds_alone : {f : File} {hold : Hold} → (view_of p).doing ≡ Holding f hold → HoldsAlone p.seat.me.0.work f hold.node
  holds_alone is = grind (arith, its_guarded, its_counted)

  pub its_retiring : {f : File} {retired : Retired} → (view_of p).doing ≡ Retires f retired
      → IsToRetire k.passes p.next_visit f retired p.seat.me.0.work
  its_retiring = grind (arith, work_retiring)

-- a removal by a close
pub taken_so : (o : Opening) (v w : PassView) (slot : ℕ) (removed : Option Retired) (result : Result Retired Empty) (empty : Empty)
    → result ≡ ok_or removed empty → HasRemoved o v slot removed w → Taken o v slot result w
taken_so o v w slot removed result empty answer it = grind arith

-- The results of calls that empty or replace a slot
module _ (k : Start) (v : PassView) (slot found : ℕ) (w : PassView) where
  abbrev o : Opening
  o = opening_of k

  abbrev value_of : Option File → Option Retired
  value_of file = option_map (λ (f : File). retired_at f (full_name_in found - 1) (count_in found)) file

  is_removal : (f : File) → IsFileRemoval o f (retired_at f (full_name_in found - 1) (count_in found))
  is_removal f = record { entry = refl; same = λ e. absurd (cc e) }

  pub removed_so : (file : Option File) (removed : Option Retired) → removed ≡ value_of file
      → Adds o v ([] ▷ Take slot file) (doing_in (retiring_work k found file)) no_use w → HasRemoved o v slot removed w
  removed_so file removed is adds = grind (arith, is_removal)

  pub placed_so : (file : Option File) (removed : Option Retired) → removed ≡ value_of file → (n : ℕ) (its : Closed)
      → Adds o v ([] ▷ Put slot (numbered n its) file) (doing_in (retiring_work k found file)) one_number w → Placed o v slot its removed w
  placed_so None removed is n its adds = rw is (numbered n its, record { identity = refl; same = λ e. absurd (cc e) }, adds)
  placed_so (Some f) removed is n its adds =
      rw is (numbered n its, record { identity = refl; same = λ e. absurd (cc e) }, (f, is_removal f, adds))

-- the release of a file
pub released_so : {id : TableId} {k : Start} {p : LastingPass} (fits : IsPassOf id k p) (m' : Sat) (f : File) (n : ℕ) (r : Option Closed)
    → LetsFileGo p.seat.me f n r m' → ReleasesFile (opening_of k) (view_of p) f r (pass_of m'.0)
released_so fits m' f n None goes = adds_so fits.seated goes no_use
released_so fits m' f n (Some file) goes = (goes.0, adds_so fits.seated goes.1 no_use)

-- it is one run of steps
pub lets_run : (m m' : Sat) (f : File) (n : ℕ) (r : Option Closed) → LetsFileGo m f n r m'
    → (xs : List Action) × Runs m xs Idle m.0.glance m.0.change n m'
lets_run m m' f n r goes = grind arith

-- the changes of a seat's steps, outside a change
pub at_ease : {id : TableId} {k : Start} {p : LastingPass} → IsSeatOf id k p → {m' : Sat} {xs : List Action} {w : Work} {g : Glance} {n : ℕ}
    → Runs p.seat.me xs w g p.seat.me.0.change n m' → Runs p.seat.me xs w g Outside n m'
at_ease {p = p} seated {m'} {xs} {w} {g} {n} r = subst (λ (z : Change). Runs p.seat.me xs w g z n m') seated.change r

-- what a pass adds that did something before its look-up
pub after_then : (k : Start) (u v w : PassView) (xs : List Action) (slot : ℕ) (r : Result Hold LookFault) → r ≢ Err Spent
    → Adds (opening_of k) u xs DoesNothing no_use v → LookedAfter (opening_of k) v [] slot r w → LookedAfter (opening_of k) u xs slot r w
after_then k u v w xs slot (Ok hold) never before looked = (
  looked.0,
  looked.1,
  adds_then (opening_of k) u v w xs ([] ▷ Look slot (Some looked.0)) DoesNothing (Holding looked.0 hold) no_use one_look before looked.2,
)
after_then k u v w xs slot (Err Spent) never before looked = absurd (never refl)
after_then k u v w xs slot (Err EmptySlot) never before looked =
    adds_then (opening_of k) u v w xs ([] ▷ Look slot None) DoesNothing DoesNothing no_use one_look before looked

pub up_then : (k : Start) (u v w : PassView) (slot : ℕ) (r : Result Hold LookFault) (freed : Option Closed) → r ≢ Err Spent
    → Adds (opening_of k) u [] DoesNothing no_use v → LookedUp (opening_of k) v slot r freed w → LookedUp (opening_of k) u slot r freed w
up_then k u v w slot r None never before looked = after_then k u v w [] slot r never before looked
up_then k u v w slot (Ok hold) (Some file) never before looked = (
  looked.0,
  looked.1,
  (
    looked.2.0,
    looked.2.1,
    adds_then (opening_of k) u v w [] ([] ▷ Close looked.0 ▷ Look slot (Some looked.2.0)) DoesNothing (Holding looked.2.0 hold) no_use one_look before
        looked.2.2,
  ),
)
up_then k u v w slot (Err Spent) (Some file) never before looked = absurd (never refl)
up_then k u v w slot (Err EmptySlot) (Some file) never before looked = (
  looked.0,
  looked.1,
  adds_then (opening_of k) u v w [] ([] ▷ Close looked.0 ▷ Look slot None) DoesNothing DoesNothing no_use one_look before looked.2,
)

-- a look-up by a pass that may have freed a file before
pub frees_then : (k : Start) (u v w : PassView) (slot : ℕ) (r : Result Hold LookFault) (freed : Option Closed) → r ≢ Err Spent
    → FreesFirst (opening_of k) u freed v → LookedUp (opening_of k) v slot r None w → LookedUp (opening_of k) u slot r freed w
frees_then k u v w slot r freed never before looked = grind (arith, after_then)

-- a look-up after a withdrawal
pub charges_then : {id : TableId} {k : Start} {p : LastingPass} (seated : IsSeatOf id k p) {m' : Sat} (w : PassView) (slot : ℕ) {n : ℕ}
    {g : Glance} (freed : Option Closed) (r : Result Hold LookFault) → r ≢ Err Spent
    → Runs p.seat.me [] (Announced n) g p.seat.me.0.change 2 m' → (m'' : Sat) → LetsChargeGo m' 3 freed m''
    → LookedAfter (opening_of k) (pass_of m''.0) [] slot r w → LookedUp (opening_of k) (view_of p) slot r freed w
charges_then {k = k} {p = p} seated w slot None r never before m'' lets looked =
    after_then k (view_of p) (pass_of m''.0) w [] slot r never (adds_so seated (does_then before lets) no_use) looked
charges_then {k = k} {p = p} seated w slot (Some file) r never before m'' lets looked = (
  lets.0,
  lets.1,
  after_then k (view_of p) (pass_of m''.0) w ([] ▷ Close lets.0) slot r never (adds_so seated (does_then before lets.2) no_use) looked,
)

pub charges_run : (m m' : Sat) (n : ℕ) (freed : Option Closed) → LetsChargeGo m n freed m'
    → (xs : List Action) × Runs m xs Idle m.0.glance m.0.change n m'
charges_run m m' n freed lets = grind arith

-- a removal, and a pass that knows of it
pub knows_removed : (k : Start) (found : ℕ) (file : Option File) (removed : Option Retired) (idle guarded keeps : Bool) (visit entry : ℕ) (stock : List ℕ)
    → keeps ≡ false → removed ≡ option_map (λ (f : File). retired_at f (full_name_in found - 1) (count_in found)) file → is_some removed ≡ not idle
    → visit ≡ first_visit k.passes found → IsBetweenCalls k.passes idle guarded keeps visit stock entry (retiring_work k found file)
knows_removed k found file removed idle guarded keeps visit entry stock unkept is says first = grind (arith, not-false)

-- its account with the groups' words
pub account_so : (range : ℕ × ℕ) (slot found : ℕ) (file : Option File) (removed : Option Retired) (inside was_empty : Bool)
    → removed ≡ option_map (λ (f : File). retired_at f (full_name_in found - 1) (count_in found)) file → is_some removed ≡ not was_empty
    → inside ≡ is_in range slot → account range slot file ≡ uncounted inside was_empty (group_of range slot)
account_so range slot found file removed inside was_empty is says h10 = grind (arith, not-false, uncounted)

-- a pass that was idle, once a slot's old file is with it
pub swapped_looking : {id : TableId} {k : Start} {p : LastingPass} → IsPassOf id k p → (entry node : ℕ) → {m' : Sat} {xs : List Action} {j : Start} (found : ℕ)
    (file : Option File) {n : ℕ} → Runs (as_swapped entry node p.seat.me) xs (retiring_work j found file) p.seat.me.0.glance Outside n m' → j ≡ k
    → Runs (as_swapped entry node p.seat.me) xs (retiring_work k found file) Nothing Outside n m'
swapped_looking fits entry node found file r same = grind arith

-- the first visit of a retirement, as the table counts its passes
pub first_by : (t : LastingTable) (found : ℕ) → first_visit t.passes found ≡ first_visit t.table.shared.key.passes found
first_by t found = ap (λ (n : ℕ). first_visit n found) t.key.0

-- a pass that can install a file is one of those that install
pub may_install : {id : TableId} {k : Start} {p : LastingPass} → IsSeatOf id k p → 0 < (view_of p).numbers_left → p.number ≤ k.installing
may_install seated some_left = grind (arith, number_is)

-- the seat of an idle pass that keeps no node
pub idle_seat : (t : LastingTable) {p : LastingPass} → IsPassOfTable t p → IsIdle (view_of p) → p.keeps ≡ false → IsIdleSeatOf t p.seat
idle_seat t fits idle unkept = grind (arith, its_idle)

-- a new file, as a lasting table has it
pub new_file_so : (k : Start) {v u : PassView} {file back : Closed} {new : File} → IsNewFile (opening_of k) v back new → back ≡ file
    → IsNewFile (opening_of k) u file new
new_file_so k its same = record { identity = its.identity ∙ same; same = λ e. absurd (cc e) }
