-- Several steps in a row, the pass after them, and the conditions of a call's steps.
use Rattle.fx_counted.proofs.Words.{◌≡◌, ◌≤◌, ℕ, ◌+◌, ◌*◌, List, [], sym, ap, ◌∙◌, subst, arith, Some, TableId, ◌▷◌, Action, Close, Use, no_use, Adds}
use Rattle.fx_counted.proofs.Words.{File, Goes, HasPlace, HasPass, Sat, opening_of, pass_of, doing_in, view_of, is_idle, IsPassOf, Stepped, TakesOut}
use Rattle.fx_counted.proofs.Words.{LetsGo, CountedPass, Change, Outside, Log, Start, Work, Idle, Holding, Retiring, activity_of, ◌▷▷◌, both_uses}
use Rattle.fx_counted.proofs.Words.{IsBetweenCalls, Between, steps_of, true, ◌<◌, range_of, full_word_of, InRange, HasNode, chain_numbers, slot_of}
use Rattle.fx_counted.proofs.Words.{slot_place, node_place, IsNumber, opening_of_table, CountedTable, size_of, Option, None, number_of, name_in, Bool}
use Rattle.fx_counted.proofs.Words.{node_in, Names, named, named_suc, none, Closed, retiring, IsPassOfTable, Removes, begun, Seat, View, Agrees, step}
use Rattle.fx_counted.proofs.Words.{IsIdle, Allows, adds_then, hold_of, retired_of, Hold, Retired, rules}
use Rattle.fx_table.proofs.FileLemmas.{idle_task}
use Rattle.fx_table.specs.declared.values.Task.{Task}
use Rattle.fx_counted.proofs.Places.{few_numbers, inside, apart}
use Rattle.fx_counted.proofs.SlotLaws.{IsRemoval, removes_keep}
use Rattle.fx_counted.proofs.ControlSteps.{may_change}
use Rattle.fx_table.specs.declared.values.Doing.TheVariants as doing

pub goes_one : {m m' : Sat} {xs : List Action} {a : Use} {w : Work} {c : Change} → Stepped m xs a w c m' → Goes m xs a w c 1 m'
goes_one {m} {m'} s = let few : steps_of m'.0 ≤ steps_of m.0 + 1 = (let e = s.steps in omega arith) in assumption few

pub goes_then : {m m' m'' : Sat} {xs ys : List Action} {a b : Use} {w w' : Work} {c c' : Change} {n n' : ℕ} → Goes m xs a w c n m'
    → Goes m' ys b w' c' n' m'' → Goes m (xs ▷▷ ys) (both_uses a b) w' c' (n + n') m''
goes_then {m} {m'} {m''} {xs} {ys} {a} {b} {w} {w'} {c} {c'} {n} {n'} g h =
    let steps : steps_of m''.0 ≤ steps_of m.0 + (n + n') = (let p = g.steps in let q = h.steps in omega arith) in assumption (
      h,
      adds_then (opening_of m.0.start) (pass_of m.0) (pass_of m'.0) (pass_of m''.0) xs ys (doing_in w) (doing_in w') a b g.adds
          (rw g.start at h.adds),
      rw g.start at h.inside,
      h.start ∙ g.start,
      steps,
    )

-- the changes that a pass's steps make to its view
pub adds_so : {id : TableId} {k : Start} {p : CountedPass} (fits : IsPassOf id k p) {m' : Sat} {xs : List Action} {a : Use} {w : Work}
    {c : Change} {n : ℕ} → Goes p.seat.me xs a w c n m' → Adds (opening_of k) (view_of p) xs (doing_in w) a (pass_of m'.0)
adds_so fits goes = rw fits.seated.start at goes.adds

-- a seat with one pass, after some steps
module _ {id : TableId} {k : Start} {p : CountedPass} (q : CountedPass) (fits : IsPassOf id k p) {xs : List Action} {a : Use} {w : Work} {n : ℕ}
    (goes : Goes p.seat.me xs a w Outside n q.seat.me) where
  abbrev old : Log
  old = fits.log

  abbrev new : Log
  new = goes.one.0

  numbers : new.numbers_left + a.numbers ≡ old.numbers_left
  numbers = grind arith

  -- a pass that knows what it has used up
  pub still_pass : q.seat.table_id ≡ p.seat.table_id → q.seat.me.1 ≡ [] → IsBetweenCalls w → q.chain ≡ p.chain
      → q.no_chains_left ≡ p.no_chains_left → q.numbers_left + a.numbers ≡ p.numbers_left → q.looks_left + a.looks ≡ p.looks_left
      → q.idle ≡ is_idle w → IsPassOf id k q
  still_pass table places rests chain told left looks_left idle = grind arith

-- the work of a pass between two calls
work_between : (w : Work) → IsBetweenCalls w → (t : Task) × (w ≡ Between t)
work_between w rests = grind arith

-- the pass's work, by what callers see
module _ {id : TableId} {k : Start} {p : CountedPass} (fits : IsPassOf id k p) where
  its_task : (t : Task) × (p.seat.me.0.work ≡ Between t)
  its_task = work_between p.seat.me.0.work fits.seated.work

  shows : doing_in p.seat.me.0.work ≡ activity_of its_task.0
  shows = ap doing_in its_task.1

  pub its_idle : IsIdle (view_of p) → p.seat.me.0.work ≡ Between Idle
  its_idle is = its_task.1 ∙ ap (λ (t : Task). Between t) (idle_task its_task.0 (sym shows ∙ is))

  pub its_hold : {f : File} {hold : Hold} → (view_of p).doing ≡ doing.Holding f hold
      → (p.seat.me.0.work ≡ Between (Holding f)) × (hold ≡ hold_of f)
  its_hold {f} {hold} is = grind arith

  pub its_removal : {f : File} {retired : Retired} → (view_of p).doing ≡ doing.Retiring f retired
      → (p.seat.me.0.work ≡ Between (Retiring f retired.takes)) × (retired ≡ retired_of f retired.takes)
  its_removal {f} {retired} is = grind arith

-- the pass of a seat
pub its_pass : {id : TableId} {k : Start} {p : CountedPass} (fits : IsPassOf id k p) → HasPass k p.seat.me fits.log
its_pass fits = (fits.seated.start, fits.seated.one)

-- the pass has the place of a file that is closed
pub out_place : {k : Start} {m m' : Sat} {xs : List Action} {f : File} {x : Log} → HasPass k m x → m.1 ≡ [] → TakesOut m xs f m'
    → HasPlace k f.number (Some f.identity) m'
out_place {k} {m} {m'} {xs} {f} its empty out = grind arith

-- the file of a pass is taken out: its close, and the step in which its place goes home
pub out_and_home : {m m' m'' : Sat} {xs : List Action} {f : File} → TakesOut m xs f m'
    → Stepped m' [] no_use (Between Idle) m'.0.change m'' → Goes m (xs ▷ Close f) no_use (Between Idle) m.0.change 2 m''
out_and_home out home = rw out.stepped.change at (goes_then (goes_one out.stepped) (goes_one home))

-- a pass outside a change that has done with its file
pub let_go : {m m' : Sat} {xs : List Action} → m.0.change ≡ Outside → LetsGo m xs m' → Goes m xs no_use (Between Idle) Outside 1 m'
let_go {m} {m'} {xs} outside went = subst (λ (c : Change). Goes m xs no_use (Between Idle) c 1 m') outside (goes_one went.stepped)

use_alone : (a : Use) → both_uses (both_uses no_use a) no_use ≡ a
use_alone a = grind arith

-- a step between a begin and an end, if there are such
pub goes_around : {m m' m'' m₃ : Sat} {action : Action} {a : Use} {w w' : Work} {c c' : Change} → Goes m [] no_use w c 1 m'
    → Stepped m' ([] ▷ action) a w' c' m'' → Goes m'' [] no_use m''.0.work Outside 1 m₃ → Goes m ([] ▷ action) a w' Outside 3 m₃
goes_around {m} {m'} {m''} {m₃} {action} {a} {w} {w'} before s behind = subst (λ (z : Use). Goes m ([] ▷ action) z w' Outside 3 m₃)
    (use_alone a) (goes_then (goes_then before (goes_one s)) (subst (λ (z : Work). Goes m'' [] no_use z Outside 1 m₃) s.work behind))

-- The conditions of a call's steps.
-- the word of a slot is one of the table
pub slot_inside : (t : CountedTable) {slot i : ℕ} → slot < size_of (opening_of_table t) → i ≡ slot_place slot → i < t.table.shared.table_id.words
slot_inside t {slot} l is = omega (arith, (inside t.size (t.numbers * t.chains) t.few_slots).slot slot (omega (arith, t.same_size)), t.words)

-- the number of file numbers of all chains together
pub its_numbers : (t : CountedTable) → t.numbers * t.chains ≡ chain_numbers t.table.shared.key
its_numbers t = λ i. t.key.2 i * t.key.0 i

-- the number of a slot or of a chain of the table
pub its_number : (t : CountedTable) (n : ℕ) → IsNumber t.table.shared.key n → HasNode t.size (t.numbers * t.chains) n
its_number t n has = rw (t.same_size, its_numbers t) has

pub has_node : (t : CountedTable) {n : ℕ} → IsNumber t.table.shared.key n → HasNode t.size 65472 n
has_node t {n} has = grind (arith, few_numbers)

-- its word is one of the table
pub node_inside : (t : CountedTable) {n i : ℕ} → IsNumber t.table.shared.key n → i ≡ node_place t.size n → i < t.table.shared.table_id.words
node_inside t {n} has is = omega (arith, (inside t.size (t.numbers * t.chains) t.few_slots).node n (its_number t n has), t.words)

-- the slot whose word lies there
pub slot_at : (t : CountedTable) {slot i : ℕ} → i ≡ slot_place slot → slot_of i ≡ slot
slot_at t {slot} is = ap slot_of is ∙ (apart t.size (t.numbers * t.chains) t.few_slots).slot_back slot

-- a slot of the range is one of the table
pub in_size : (t : CountedTable) (slot : ℕ) → InRange t.table.shared.key slot true → slot < size_of (opening_of_table t)
in_size t slot r = grind arith

-- the word that says that the range is full
pub full_of : (t : CountedTable) {k : Start} → k ≡ t.table.shared.key → full_word_of t.range_len ≡ full_word_of (range_of (opening_of k)).1
full_of t is = ap (λ (z : ℕ × ℕ). full_word_of z.1) t.same_range ∙ ap (λ (z : Start). full_word_of (range_of (opening_of z)).1) (sym is)

-- The readings of a slot's word, by the file that the word names.
pub node_is : (word : ℕ) (file : Option File) → Names word file → node_in word ≡ number_of file
node_is word file e = grind (arith, named, named_suc)

-- a word that names nothing
pub no_name : (word : ℕ) → node_in word ≡ None → name_in word ≡ 0
no_name word is = grind arith

-- The conditions of a removal, and the events that it adds.
module _ (act : ℕ → Option File → Action) (t : CountedTable) {p : CountedPass} (fits : IsPassOfTable t p) {slot i : ℕ}
    (place : i ≡ slot_place slot) where
  -- an idle pass may swap 0 into the slot's word, after the beginning of a change if the slot is in
  -- the range
  pub removal_requires : {slots : ℕ} {seat : Seat (Option Closed) View} (began : Bool) → IsRemoval act → IsIdle (view_of p)
      → slot < size_of (opening_of_table t) → seat.table_id ≡ p.seat.table_id → InRange t.table.shared.key slot began
      → Goes p.seat.me [] no_use p.seat.me.0.work (begun began) 1 seat.me
      → (seat.table_id ≡ t.table.shared.table_id) × (i < t.table.shared.table_id.words)
      × Allows (Agrees t.table.shared.key) slots seat.id seat.me i (λ _. 0) (Removes act (step slots i 0 0 none) seat.me)
  removal_requires began does idle inside table range goes =
      search (rules, slot_inside, removes_keep, its_idle, may_change, goes.one.0, goes.start, goes.one.1, goes.work, goes.change)

  -- a removal between a begin and an end, if there are such
  pub removal_adds : (takes : ℕ) {file : Option File} {m m' m'' : Sat} {c c' : Change} → Goes p.seat.me [] no_use p.seat.me.0.work c 1 m
      → Stepped m ([] ▷ act (slot_of i) file) no_use (Between (retiring file takes)) c' m' → Goes m' [] no_use m'.0.work Outside 1 m''
      → Adds (opening_of_table t) (view_of p) ([] ▷ act slot file) (activity_of (retiring file takes)) no_use (pass_of m''.0)
  removal_adds takes began stepped ended = rw (← slot_at t place) (adds_so fits (goes_around began stepped ended))
