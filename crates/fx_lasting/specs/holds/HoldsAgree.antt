-- The rule of passes: what each works with, which files it holds, and how.
use Rattle.std.specs.Prelude.{◌≡◌, ◌≢◌, ◌+◌, ◌-◌, ◌/◌, ◌<◌, ◌≤◌, ◌⊎◌}
use Rattle.fx_lasting.specs.Words.{ℕ, Bool, true, false, List, Some, Contains, sum_by, slice_index}
use Rattle.fx_lasting.specs.Words.{bit_at, held_by, Event, File, bit_of, Glance, Hot, Cold, Heating}
use Rattle.fx_lasting.specs.Words.{Log, Round, Start, View, Work, Announced, Counted, Guarded}
use Rattle.fx_lasting.specs.Words.{Owing, Yielding, Searching, Placing, Renewing, Nearing}
use Rattle.fx_lasting.specs.Words.{Relieving, Emptying, Keeping}
use Rattle.fx_lasting.specs.slots.Deeds.{Deed, untouched, over, heated}
use Rattle.fx_lasting.specs.life.Layout.{list_place, slot_place}
use Rattle.fx_lasting.specs.Fields.{full_name_in, IsHot, announced, charge, IsListedIn}
use Rattle.fx_lasting.specs.Passes.{Shared, slots_of, nodes_of, hold_word_of, state_after_all}
use Rattle.fx_lasting.specs.Passes.{held_in, held_of}
use Rattle.fx_lasting.specs.nodes.Phases.{Phase, free, placed, seated, leaving, emptied, kept}
use Rattle.fx_lasting.specs.nodes.Phases.{file_in}
use Rattle.fx_lasting.specs.nodes.Stocks.{IsInStock}
use Rattle.fx_lasting.specs.slots.Watches.{WatchAgrees}
use Rattle.fx_lasting.specs.declared.view.Glance.TheVariants.{None as Nothing}
use Rattle.fx_lasting.specs.declared.view.Work.TheVariants.{Idle, Retiring}
use mathlib.Core.Option.{some}
use lib.ListN.{get_elem?}

-- the file of the node is open
abbrev pub HoldsAt : Start → (ℕ → Phase) → File → ℕ → Type 0
HoldsAt k phase f node = (node < nodes_of k) × (file_in (phase node) ≡ Some f)

-- the node is in this phase
abbrev pub IsIn : Start → (ℕ → Phase) → ℕ → Phase → Type 0
IsIn k phase node ph = (node < nodes_of k) × (phase node ≡ ph)

-- what a pass works with is where the pass left it
abbrev pub WorkAgrees : Start → (ℕ → Phase) → ℕ → Work → Type 0
WorkAgrees k phase seat Idle = Unit {0}
WorkAgrees k phase seat (Announced node) = node < nodes_of k
WorkAgrees k phase seat (Counted f node) = HoldsAt k phase f node
WorkAgrees k phase seat (Guarded f node) = HoldsAt k phase f node
WorkAgrees k phase seat (Owing node) = node < nodes_of k
WorkAgrees k phase seat (Yielding f node) = HoldsAt k phase f node
WorkAgrees k phase seat (Searching node) = IsIn k phase node free
WorkAgrees k phase seat (Placing node placement) = IsIn k phase node (placed seat placement)
WorkAgrees k phase seat (Renewing f node own placement) =
    HoldsAt k phase f node × IsIn k phase own (placed seat placement)
WorkAgrees k phase seat (Nearing node own placement) =
    (node < nodes_of k) × IsIn k phase own (placed seat placement)
WorkAgrees k phase seat (Relieving f node own placement) =
    HoldsAt k phase f node × IsIn k phase own (placed seat placement)
WorkAgrees k phase seat (Retiring f node takes round charges) =
    IsIn k phase node (leaving seat takes round charges f)
WorkAgrees k phase seat (Emptying node) = IsIn k phase node (emptied seat)
WorkAgrees k phase seat (Keeping node lost) = IsIn k phase node (kept seat lost)

-- a pass looks for a free node in its own stock, places its files there, and keeps a node of it;
-- and it announces a node, or holds a file by its hold word, only if it is listed
abbrev pub IsAllowed : List ℕ → Bool → Work → Type 0
IsAllowed stock listed (Searching node) = IsInStock stock node
IsAllowed stock listed (Placing node placement) = IsInStock stock node
IsAllowed stock listed (Renewing f node own placement) = IsInStock stock own
IsAllowed stock listed (Keeping node lost) = IsInStock stock node
IsAllowed stock listed (Announced node) = listed ≡ true
IsAllowed stock listed (Guarded f node) = listed ≡ true
IsAllowed stock listed (Nearing node own placement) = IsInStock stock own × (listed ≡ true)
IsAllowed stock listed (Relieving f node own placement) = IsInStock stock own × (listed ≡ true)
IsAllowed stock listed (Retiring f node takes round charges) = round.guarded ≡ true → listed ≡ true
IsAllowed stock listed _ = Unit {0}

-- a hold word names the node, and nothing is owed; or it is charged, and so much is owed
abbrev pub NamesNode : ℕ → ℕ → ℕ → Type 0
NamesNode word debt node = ((word ≡ announced node) × (debt ≡ 0))
    ⊎ ((word ≡ announced node + charge) × (debt ≡ node + 1))

-- the hold word of a pass that removed the node's file: it names the node still, or none
abbrev pub StillNames : Bool → ℕ → ℕ → ℕ → Type 0
StillNames true word debt node = NamesNode word debt node
StillNames false word debt node = (word ≡ 0) × (debt ≡ 0)

-- the hold word of a pass, and the debt of the pass: a node plus 1, or 0
abbrev pub HoldAgrees : ℕ → ℕ → Work → Type 0
HoldAgrees word debt (Announced node) = NamesNode word debt node
HoldAgrees word debt (Guarded f node) = NamesNode word debt node
HoldAgrees word debt (Nearing node own placement) = NamesNode word debt node
HoldAgrees word debt (Relieving f node own placement) = NamesNode word debt node
HoldAgrees word debt (Retiring f node takes round charges) = StillNames round.guarded word debt node
HoldAgrees word debt (Owing node) = (word ≡ 0) × (debt ≡ node + 1)
HoldAgrees word debt (Yielding f node) = (word ≡ 0) × (debt ≡ node + 1)
HoldAgrees word debt _ = (word ≡ 0) × (debt ≡ 0)

-- the pass is one of the last word of the list that the round has loaded, without its bit: since
-- then it has held no file of the removed file's node by its hold word
abbrev pub IsIdleIn : Round → ℕ → Type 0
IsIdleIn round pass = ((pass - 1) / 64 + 1 ≡ round.words) × (bit_at round.last (bit_of pass) ≡ 0)

-- the round has still to visit the pass
abbrev pub IsToVisit : Round → ℕ → Type 0
IsToVisit round pass = (round.next ≤ pass) × (IsIdleIn round pass → ⊥)

-- a file may be held by a hold word that isn't charged at a hot slot, or until the pass is visited
abbrev pub MayBeUncharged : (ℕ → ℕ) → ℕ → Phase → Type 0
MayBeUncharged slot_word pass (seated slot f) = IsHot (slot_word slot)
MayBeUncharged slot_word pass (leaving seat takes round charges f) = IsToVisit round pass
MayBeUncharged slot_word pass _ = ⊥

abbrev pub GuardAgrees : (ℕ → ℕ) → (ℕ → Phase) → ℕ → ℕ → Work → Type 0
GuardAgrees slot_word phase pass debt (Guarded f node) =
    debt ≡ 0 → MayBeUncharged slot_word pass (phase node)
GuardAgrees slot_word phase pass debt (Relieving f node own placement) =
    debt ≡ 0 → MayBeUncharged slot_word pass (phase node)
GuardAgrees slot_word phase pass debt _ = Unit {0}

-- the progress of a look-up: the slot has still what it saw, or the pass has done nothing there
abbrev pub GlanceAgrees : Start → (ℕ → ℕ) → (ℕ → Deed) → Glance → Type 0
GlanceAgrees k slot_word deed Nothing = Unit {0}
GlanceAgrees k slot_word deed (Hot slot node) = (slot < slots_of k) × (node < nodes_of k)
    × (((full_name_in (slot_word slot) ≡ node + 1) × IsHot (slot_word slot))
    ⊎ (deed slot ≡ untouched))
GlanceAgrees k slot_word deed (Cold slot) = (slot < slots_of k) × (deed slot ≡ untouched)
GlanceAgrees k slot_word deed (Heating slot) = (slot < slots_of k) × (deed slot ≢ heated)

-- a pass that took while a slot had its takes heats the slot before its next look-up
abbrev pub Heats : Start → (ℕ → Deed) → Glance → Type 0
Heats k deed glance = (slot : ℕ) → slot < slots_of k → deed slot ≡ over → glance ≡ Heating slot

-- one pass of a seat that does this work
pub record LogAgrees (k : Start) (h : List Event) (words : List ℕ) (phase : ℕ → Phase)
    (debt : ℕ → ℕ) (deed : ℕ → ℕ → Deed) (work : Work) (glance : Glance) (x : Log) : Type 0 where
  pub held : held_by h x.number ≡ held_in work
  pub allowed : IsAllowed x.stock x.listed work
  -- the list has its bit if it is listed, and only then
  pub list : x.listed ≡ true → IsListedIn (slice_index words (list_place x.number)) x.number
  pub unlisted : IsListedIn (slice_index words (list_place x.number)) x.number → x.listed ≡ true
  pub hold : HoldAgrees (slice_index words (hold_word_of k x.number)) (debt x.number) work
  pub guarded : GuardAgrees (λ s. slice_index words (slot_place s)) phase x.number
      (debt x.number) work
  pub sees : GlanceAgrees k (λ s. slice_index words (slot_place s)) (λ s. deed s x.number) glance
  pub heats : Heats k (λ s. deed s x.number) glance
  -- who took is listed
  pub takes_listed : (slot : ℕ) → slot < slots_of k → deed slot x.number ≢ untouched
      → x.listed ≡ true
  pub watch : WatchAgrees k h words x.number x.watch

-- one seat, and its view
pub record ViewAgrees (k : Start) (h : List Event) (words : List ℕ) (phase : ℕ → Phase)
    (debt : ℕ → ℕ) (deed : ℕ → ℕ → Deed) (seat : ℕ) (v : View) : Type 0 where
  pub logs : (x : Log) → Contains v.logs x → LogAgrees k h words phase debt deed v.work v.glance x
  pub work : WorkAgrees k phase seat v.work

-- the holds: what each pass works with and holds, and the list
pub record HoldsAgree (k : Start) (s : Shared) (h : List Event) (phase : ℕ → Phase)
    (debt : ℕ → ℕ) (deed : ℕ → ℕ → Deed) : Type 0 where
  pub views : (seat : ℕ) (v : View) → get_elem? s.views seat ≡ some v
      → ViewAgrees k h s.words phase debt deed seat v
  -- the holds of a file are the passes that hold it
  pub files : (number : ℕ)
      → (state_after_all k h).holds number ≡ sum_by (held_of number) s.views
  -- the list has bits of the table's passes alone
  pub listed : (p : ℕ) → 0 < p → p ≤ 1024 → IsListedIn (slice_index s.words (list_place p)) p
      → p ≤ k.passes
