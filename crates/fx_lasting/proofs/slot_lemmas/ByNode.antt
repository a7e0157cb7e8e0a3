-- The exchanges while a slot names a node: what their steps leave, one after another.
use Rattle.fx_lasting.proofs.{◌-◌, ◌<◌, List, as_swapped, NamesANode, name_in, name_of_file, nodes_of, IsAtWork, IsStockOf, as_stocked, set, ◌≡◌, ◌≢◌}
use Rattle.fx_lasting.proofs.{ℕ, ◌+◌, ◌≤◌, [], sym, ◌∙◌, subst, arith, Option, Some, Bool, false, File, Event, IsSeenBy, Action, ◌▷▷◌, full_name_in}
use Rattle.fx_lasting.proofs.{entry_in, count_in, Names, Start, Sat, At, Work, Glance, Change, Outside, Runs, Stepped, Sees, retired_at, slot_of}
use Rattle.fx_lasting.proofs.{pass_in, state_after_all, node_of_number, account, uncounted, TableId, LastingPass, IsPassOf, opening_of, view_of}
use Rattle.fx_lasting.proofs.{pass_of, Result, Err, seen_further, Adds, no_use, IsIdle, IsFileRemoval, Doing, DoesNothing, Retired, FitsMiss, WasSo}
use Rattle.fx_lasting.proofs.{WasIn, SaysIf, SawIf, FailedIf, HasTriedIf, Miss, meetings, changes_at, changes_in, swapped_then, at_swapped, number_is}
use Rattle.fx_lasting.proofs.{stock_is, still_at_work, runs_one, runs_then, runs_goes, runs_within, does_then, adds_so}
use Rattle.fx_lasting.proofs.slot_lemmas.Overtaking.{overtaken_by}
use Rattle.fx_lasting.specs.Ends.{Does}
use Rattle.fx_lasting.specs.declared.answers.Miss.TheVariants.{Empty, Stale, Again}

not_named : (a b : ℕ) → a ≡ b + 1 → a ≡ 0 → ⊥
not_named a b e zero = omega (arith, e, zero)

-- the file at a slot, by the name in the slot's word
module _ (k : Start) (node word : ℕ) where
  fits_on : (there : Option File) → Names (node_of_number k) word there → full_name_in word ≡ node + 1 → FitsMiss k node Again there
  fits_on there names is = grind (arith, not_named)

  fits_not : (there : Option File) → Names (node_of_number k) word there → (miss : Miss) → SaysIf word node (Err miss) → FitsMiss k node miss there
  fits_not there names miss says = grind (arith, not_named)

-- what was so before more was seen, or after more was seen
pub was_further : {k : Start} {slot : ℕ} {is : Option File → Type 0} {a b : List Event} (c : List Event) → WasSo k slot is a b → IsSeenBy b c
    → WasSo k slot is a c
was_further {b = b} c was more =
    record { history = was.history; later = was.later; seen = seen_further was.history b c was.seen more; there = was.there }

pub was_before : {k : Start} {slot : ℕ} {is : Option File → Type 0} (a : List Event) {b c : List Event} → IsSeenBy a b → WasSo k slot is b c
    → WasSo k slot is a c
was_before a {b} more was = record { history = was.history; later = seen_further a b was.history more was.later; seen = was.seen; there = was.there }

-- what a word says of a call isn't that it tries no more
not_again : (word node : ℕ) (miss : Miss) → SaysIf word node (Err miss) → miss ≢ Again
not_again word node miss says is = grind arith

-- A pass that has seen what is at a slot
module _ {k : Start} {slot : ℕ} (node : ℕ) {st : At} {m m' : Sat} {found : ℕ} (start : m.0.start ≡ k) (here : slot_of st.word ≡ slot)
    (saw : Sees st m found m') where
  names_there : Names (node_of_number k) found ((state_after_all k (pass_in m').front).at slot)
  names_there = grind arith

  pub was_on : full_name_in found ≡ node + 1 → WasIn k slot node Again m m'
  was_on is = grind (arith, fits_on, names_there)

  pub was_not : (miss : Miss) → SaysIf found node (Err miss) → WasIn k slot node miss m m'
  was_not miss says = grind (arith, fits_not, names_there)

  pub saw_if : (r : Result ℕ Miss) → SaysIf found node r → SawIf k slot node m r m'
  saw_if r says = grind (arith, was_on, runs_goes, was_not, not_again)

-- a pass goes on with the same work
pub stands_then : {m m' m'' : Sat} {xs ys : List Action} {w : Work} {g : Glance} {c : Change} {n n' : ℕ} → Runs m xs w g c n m'
    → Runs m' ys m'.0.work m'.0.glance m'.0.change n' m'' → Runs m (xs ▷▷ ys) w g c (n + n') m''
stands_then {m' = m'} {m'' = m''} {ys = ys} {n' = n'} a b = does_then a (subst (λ (z : Work). Runs m' ys z m'.0.glance m'.0.change n' m'') a.work b)

-- it acts, and ends its change
pub acts_then : {m m' m'' : Sat} {xs ys : List Action} {w w' : Work} {g : Glance} {c c' : Change} {n n' : ℕ} → Runs m xs w g c n m'
    → Runs m' ys w' m'.0.glance c' n' m'' → Runs m (xs ▷▷ ys) w' g c' (n + n') m''
acts_then {m' = m'} {m'' = m''} {ys = ys} {w' = w'} {c' = c'} {n' = n'} a b =
    runs_then a (subst (λ (z : Glance). Runs m' ys w' z c' n' m'') a.glance b)

pub swapped_acts : {m m' m'' : Sat} {xs ys : List Action} {w w' : Work} {g : Glance} {c c' : Change} {n n' : ℕ} (entry node : ℕ) → Runs m xs w g c n m'
    → Runs (as_swapped entry node m') ys w' m'.0.glance c' n' m'' → Runs (as_swapped entry node m) (xs ▷▷ ys) w' g c' (n + n') m''
swapped_acts {m' = m'} {m'' = m''} {ys = ys} {w' = w'} {c' = c'} {n' = n'} entry node a b =
    swapped_then entry node a (subst (λ (z : Glance). Runs (as_swapped entry node m') ys w' z c' n' m'') a.glance b)

-- a slot that had a file leaves the groups' words as they were
off_none : (b : Bool) (g : ℕ) → uncounted b false g ≡ Outside
off_none b g = grind arith

pub at_once : {m m' : Sat} (range : ℕ × ℕ) (slot : ℕ) (f : File) {xs : List Action} {w : Work} {g : Glance}
    → Stepped m xs w g (account range slot (Some f)) m' → Runs m xs w g Outside 1 m'
at_once range slot f s = grind (arith, off_none, runs_one)

failed_so : (k : Start) (slot node word : ℕ) (m m' : Sat) (miss : Miss) → SaysIf word node (Err miss) → WasIn k slot node miss m m'
    → FailedIf k slot node miss m m'
failed_so k slot node word m m' miss says was = grind arith

pub tried_none : (k : Start) (slot : ℕ) (miss : Miss) (p p' : LastingPass) → miss ≢ Again → HasTriedIf k slot miss p p'
tried_none k slot miss p p' not = grind arith

pub tried_so : (k : Start) (slot node : ℕ) (p p' : LastingPass) (m₁ m₂ : Sat) → (pass_in m₁).number ≡ (view_of p).number → m₁.0.start ≡ k
    → IsSeenBy (view_of p).front (pass_in m₁).front → meetings p ≤ (pass_in m₁).watch.met → changes_at slot p ≤ changes_in slot (pass_in m₁)
    → IsSeenBy (pass_in m₂).front (view_of p').front → (pass_in m₂).watch.met ≤ meetings p' → changes_in slot (pass_in m₂) ≤ changes_at slot p'
    → (miss : Miss) → FailedIf k slot node miss m₁ m₂ → HasTriedIf k slot miss p p'
tried_so k slot node p p' m₁ m₂ number start before few fewer after more found Again failed =
    overtaken_by k slot p p' m₁ m₂ number start before few fewer after more found failed
tried_so k slot node p p' m₁ m₂ number start before few fewer after more found _ failed = tt

pub its_own : (found node : ℕ) → full_name_in found ≡ node + 1 → name_in found - 1 ≡ node
its_own found node is = let a = name_of_file found node is in omega arith

-- The exchanges that a pass tried while a slot's word named the node
pub begun_at : {k : Start} {p : ℕ} {m b : Sat} → IsAtWork k p m → Does m [] m.0.work 3 b → b.0.start ≡ k
begun_at at still = (still_at_work at still).pass.0

-- the node that a word names is one of the table
pub names_inside : {k : Start} (word node : ℕ) (b : Sat) → b.0.start ≡ k → full_name_in word ≡ node + 1 → NamesANode b.0.start word → node < nodes_of k
names_inside word node b start is named = grind (arith, its_own)

-- the stock of the pass, with the node at an entry
pub stock_moved : {k : Start} {p : ℕ} {m : Sat} {l : List ℕ} (at : IsAtWork k p m) (entry node : ℕ) → node < nodes_of k → set (pass_in m).stock entry node ≡ l
    → IsStockOf k (pass_in m).number l
stock_moved {k} {p} {l = l} at entry node inside same = let after = at_swapped at entry node inside in
    subst (λ (n : ℕ). IsStockOf k n l) (sym (number_is at)) (subst (IsStockOf k p) (sym (stock_is after) ∙ same) after.stock)

-- a pass with the same stock
pub with_stock : {m m' : Sat} {l : List ℕ} {xs : List Action} {w : Work} {g : Glance} {c : Change} {n : ℕ} → l ≡ (pass_in m).stock → Runs m xs w g c n m'
    → Runs (as_stocked l m) xs w g c n m'
with_stock its r = grind arith

module _ {st : At} {m m₁ m₂ : Sat} {found n : ℕ} (still : Does m [] m.0.work n m₁) (few : n + 1 ≤ 4) (saw : Sees st m₁ found m₂) where
  pub lost_run : Does m [] m.0.work 4 m₂
  lost_run = runs_within few (stands_then still (runs_goes saw.goes))

  pub lost_so : {k : Start} {slot : ℕ} (node : ℕ) → m₁.0.start ≡ k → slot_of st.word ≡ slot → (miss : Miss) → SaysIf found node (Err miss)
      → FailedIf k slot node miss m m₂
  lost_so {k} {slot} node start here miss says =
      failed_so k slot node found m m₂ miss says (was_before (pass_in m).front still.seen (was_not node start here saw miss says))

-- why a call did nothing: the word was seen to name the node first
pub missed_so : (k : Start) (slot node : ℕ) (m m₁ m₂ m₃ m₄ : Sat) (miss : Miss) → WasIn k slot node Again m m₁ → FailedIf k slot node miss m₂ m₃
    → IsSeenBy (pass_in m).front (pass_in m₂).front → IsSeenBy (pass_in m₁).front (pass_in m₄).front
    → IsSeenBy (pass_in m₃).front (pass_in m₄).front → WasIn k slot node miss m m₄
missed_so k slot node m m₁ m₂ m₃ m₄ Again first failed before all after = was_further (pass_in m₄).front first all
missed_so k slot node m m₁ m₂ m₃ m₄ Empty first failed before all after =
    was_before (pass_in m).front before (was_further (pass_in m₄).front failed after)
missed_so k slot node m m₁ m₂ m₃ m₄ Stale first failed before all after =
    was_before (pass_in m).front before (was_further (pass_in m₄).front failed after)

-- The value of a removed file
module _ {node : ℕ} (found : ℕ) (x : Retired) (at : x.node ≡ node) (entry : x.entry ≡ entry_in found) (takes : x.takes ≡ count_in found)
    (is : full_name_in found ≡ node + 1) (f : File) where
  pub value_so : entry_in found ≡ f.identity.entry → retired_at f (full_name_in found - 1) (count_in found) ≡ x
  value_so same = grind arith

  pub removal_so : (k : Start) → entry_in found ≡ f.identity.entry → IsFileRemoval (opening_of k) f x
  removal_so k same = record { entry = entry ∙ same; same = λ e. absurd (cc e) }

-- an idle pass that has done nothing but look
pub adds_none : {id : TableId} {k : Start} {p : LastingPass} → IsPassOf id k p → IsIdle (view_of p) → {m' : Sat} {g : Glance} {c : Change} {n : ℕ}
    → Runs p.seat.me [] p.seat.me.0.work g c n m' → Adds (opening_of k) (view_of p) [] DoesNothing no_use (pass_of m'.0)
adds_none {k = k} {p = p} fits idle {m'} r =
    subst (λ (d : Doing). Adds (opening_of k) (view_of p) [] d no_use (pass_of m'.0)) idle (adds_so fits.seated r no_use)
