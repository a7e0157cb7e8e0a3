-- The rule of the lock-free table: words, places and views agree with the state that one legal
-- history leads to.
use Rattle.std.specs.Prelude.{◌≡◌, ◌+◌, ◌*◌, ◌<◌, ◌≤◌, ◌==◌}
use Rattle.fx_counted.specs.Words.{ℕ, true, List, length, slice_index, Option, Some, None, Contains}
use Rattle.fx_counted.specs.Words.{count_by, sum_by, Identity, held_by, numbered, File, Event}
use Rattle.fx_counted.specs.Words.{MOST_SLOTS, CHAIN_NUMBERS, MAX_CHAINS, MAX_PASSES, PASS_LOOKS}
use Rattle.fx_counted.specs.Words.{range_of, name_in, entry_in, takes_in, born, Log, Start, View}
use Rattle.fx_counted.specs.Words.{Work, Between, Placing, Emptying, Idle, Holding, Retiring}
use Rattle.fx_plain.specs.State.{State}
use Rattle.table_seats.specs.Together.{Together}
use Rattle.fx_counted.specs.Control.{ControlCounts}
use Rattle.fx_counted.specs.Counts.{looks, all_looks}
use Rattle.fx_counted.specs.Cuts.{seats}
use Rattle.fx_counted.specs.Draws.{DrawsCount}
use Rattle.fx_counted.specs.Layout.{control_place, draw_place, slot_place, node_place, words_for}
use Rattle.fx_counted.specs.Layout.{home_place, homes_for}
use Rattle.fx_counted.specs.Passes.{Shared, opening_of, slots_of, chain_numbers, IsNumber}
use Rattle.fx_counted.specs.Passes.{state_after_all, chain_in, end_in, next_in, held_in, placing}
use Rattle.fx_counted.specs.Passes.{looks_of, held_of}
use Rattle.fx_counted.specs.Phases.{Phase, unborn, spare, placed, seated, leaving, retired, emptied}
use Rattle.fx_counted.specs.Phases.{closed, file_in}
use mathlib.Core.Option.{some, none}
use mathlib.Core.Option as maybe
use lib.ListN.{get_elem?}

-- the slot's word names the file at the slot, or no file
abbrev pub Names : ℕ → Option File → Type 0
Names word None = name_in word ≡ 0
Names word (Some f) = (name_in word ≡ f.number + 1) × (entry_in word ≡ f.identity.entry)

-- the file at a slot: its takes are the look-ups that found it, and it knows its slot
abbrev pub IsSeated : (k : Start) (looks : ℕ → ℕ) (phase : ℕ → Phase) (slot word : ℕ) → Option File
    → Type 0
IsSeated k looks phase slot word None = Unit {0}
IsSeated k looks phase slot word (Some f) = IsNumber k f.number
    × (takes_in word ≡ looks f.number) × (phase f.number ≡ seated slot f.identity)

-- One slot, and its word
pub record SlotAgrees (k : Start) (h : List Event) (phase : ℕ → Phase)
    (slot word : ℕ) : Type 0 where
  pub names : Names word ((state_after_all k h).at slot)
  pub seat : IsSeated k (looks h) phase slot word ((state_after_all k h).at slot)
  pub takes : takes_in word ≤ all_looks h

-- the content of a number's place: nothing while a pass has the place, otherwise a file or none
abbrev pub Home : Type 0
Home = maybe.Option (maybe.Option (Option Identity))

-- One number: its word, the content of its place, and its part of the state. The releases of a file
-- are its looks minus its holds, so `word + looks ≡ born + holds` says that the word is 2^32 minus
-- the releases
module _ (st : State) (number looks word : ℕ) (home : Home) where
  -- no file has had it: its word and the content of its place
  pub record IsUnused (first : ℕ) (lies : Home) : Type 0 where
    pub counts : word ≡ first
    pub at_home : home ≡ lies
    pub fresh : st.fresh number ≡ true
    pub no_looks : looks ≡ 0
    pub no_holds : st.holds number ≡ 0
    pub not_removed : st.removed number ≡ None

  -- its file is at the slot
  pub record IsAtSlot (slot : ℕ) (file : Identity) : Type 0 where
    pub counts : word + looks ≡ born + st.holds number
    pub at_home : home ≡ some (some (Some file))
    pub inside : slot < st.size
    pub there : st.at slot ≡ Some (numbered number file)
    pub not_removed : st.removed number ≡ None

  -- its file was removed: the takes that were found are all its looks
  pub record IsLeaving (takes : ℕ) (file : Identity) : Type 0 where
    pub counts : word + looks ≡ born + st.holds number
    pub at_home : home ≡ some (some (Some file))
    pub all_takes : takes ≡ looks
    pub removed : st.removed number ≡ Some (numbered number file)

  -- its file was retired: the word is the number of holds
  pub record IsRetired (file : Identity) : Type 0 where
    pub counts : word ≡ st.holds number
    pub at_home : home ≡ some (some (Some file))
    pub some_hold : 0 < word
    pub removed : st.removed number ≡ Some (numbered number file)

  -- its file is closed: the content of its place
  pub record IsGone (lies : Home) : Type 0 where
    pub counts : word ≡ 0
    pub at_home : home ≡ lies
    pub no_holds : st.holds number ≡ 0
    pub not_removed : st.removed number ≡ None

  -- the condition of the number's phase
  abbrev pub NodeAgrees : Phase → Type 0
  NodeAgrees unborn = IsUnused 0 (some (some None))
  NodeAgrees (spare pass) = IsUnused 0 (some (some None))
  NodeAgrees (placed seat) = IsUnused born (some none)
  NodeAgrees (seated slot file) = IsAtSlot slot file
  NodeAgrees (leaving seat takes file) = IsLeaving takes file
  NodeAgrees (retired file) = IsRetired file
  NodeAgrees (emptied seat) = IsGone (some none)
  NodeAgrees closed = IsGone (some (some None))

-- the pass of the seat has this work
abbrev pub Does : List View → ℕ → Work → Type 0
Does views seat work = (v : View) × (get_elem? views seat ≡ some v) × (v.work ≡ work)

-- the owner of a number works with it
abbrev pub OwnerAgrees : List View → ℕ → Phase → Type 0
OwnerAgrees views number (placed seat) = Does views seat (Placing number)
OwnerAgrees views number (leaving seat takes file) =
    Does views seat (Between (Retiring (numbered number file) takes))
OwnerAgrees views number (emptied seat) = Does views seat (Emptying number)
OwnerAgrees views number _ = Unit {0}

-- the number that a pass works with is in the phase of that work
abbrev pub WorkAgrees : Start → (ℕ → Phase) → ℕ → Work → Type 0
WorkAgrees k phase seat (Between Idle) = Unit {0}
WorkAgrees k phase seat (Placing number) = IsNumber k number × (phase number ≡ placed seat)
WorkAgrees k phase seat (Between (Holding f)) = IsNumber k f.number
    × (file_in (phase f.number) ≡ Some f.identity)
WorkAgrees k phase seat (Between (Retiring f takes)) = IsNumber k f.number
    × (phase f.number ≡ leaving seat takes f.identity)
WorkAgrees k phase seat (Emptying number) = IsNumber k number × (phase number ≡ emptied seat)

-- a pass that places a number places the next one
abbrev pub PlacesNext : Start → Log → Work → Type 0
PlacesNext k x (Placing number) = (number ≡ next_in k x) × (0 < x.numbers_left)
PlacesNext k x _ = Unit {0}

-- one pass of a seat with this work
pub record LogAgrees (k : Start) (h : List Event) (phase : ℕ → Phase)
    (work : Work) (x : Log) : Type 0 where
  pub held : held_by h x.number ≡ held_in work
  pub chain : chain_in x ≤ k.chains
  -- it drew no chain after its last one
  pub last : (c : ℕ) → chain_in x < c → count_by (λ d. d == c) x.drawn ≡ 0
  pub few_left : x.numbers_left ≤ CHAIN_NUMBERS
  pub left_inside : x.numbers_left ≤ k.numbers * chain_in x
  -- the numbers that it has left are its own
  pub next : PlacesNext k x work
  pub spares : (n : ℕ) → next_in k x + placing work ≤ n → n < end_in k x → phase n ≡ spare x.number

-- one seat, and its view
pub record ViewAgrees (k : Start) (h : List Event) (phase : ℕ → Phase)
    (seat : ℕ) (v : View) : Type 0 where
  pub logs : (x : Log) → Contains v.logs x → LogAgrees k h phase v.work x
  pub work : WorkAgrees k phase seat v.work

-- the counts of words, places and chains
pub record HasShape (k : Start) (s : Shared) : Type 0 where
  pub slots : slots_of k ≤ MOST_SLOTS
  pub range : (range_of (opening_of k)).0 + (range_of (opening_of k)).1 ≤ slots_of k
  pub chains : k.chains ≤ MAX_CHAINS
  pub passes : k.passes ≤ MAX_PASSES
  pub numbers : k.numbers ≤ CHAIN_NUMBERS
  pub words : length s.words ≡ words_for (slots_of k) (chain_numbers k)
  pub homes : length s.homes ≡ homes_for (slots_of k) (chain_numbers k)

-- the rule, which holds between any two steps
pub record Agrees (k : Start) (s : Shared) : Type 0 where
  pub shape : HasShape k s
  pub history : List Event
  pub phase : ℕ → Phase
  pub life : Together seats k s.views history
  pub each_slot : (slot : ℕ) → slot < slots_of k
      → SlotAgrees k history phase slot (slice_index s.words (slot_place slot))
  pub each_node : (n : ℕ) → IsNumber k n
      → NodeAgrees (state_after_all k history) n (looks history n)
      (slice_index s.words (node_place (slots_of k) n))
      (get_elem? s.homes (home_place (slots_of k) n)) (phase n)
  pub each_owner : (n : ℕ) → IsNumber k n → OwnerAgrees s.views n (phase n)
  pub no_other : (n : ℕ) → (IsNumber k n → ⊥) → (state_after_all k history).removed n ≡ None
  pub each_view : (seat : ℕ) (v : View) → get_elem? s.views seat ≡ some v
      → ViewAgrees k history phase seat v
  -- a file's holds are the passes that hold it
  pub holds : (n : ℕ) → (state_after_all k history).holds n ≡ sum_by (held_of n) s.views
  -- each pass began with `PASS_LOOKS` look-ups
  pub look_ups : all_looks history + sum_by looks_of s.views ≡ PASS_LOOKS * k.passes
  pub control : ControlCounts (state_after_all k history).at (range_of (opening_of k)) s.views
      (slice_index s.words control_place)
  pub draws : DrawsCount k.chains k.numbers phase s.views (slice_index s.words draw_place)
