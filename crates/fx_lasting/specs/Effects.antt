-- Each kind of step: its effect on the pass that makes it.
use Rattle.std.specs.Prelude.{◌≡◌, ◌≢◌, ◌+◌, ◌-◌, ◌*◌, ◌/◌, ◌<◌, ◌==◌, ◌⊎◌, ◌↔◌, if◌then◌else◌, ◌≤◌}
use Rattle.std.specs.Prelude.{◌∷◌, ◌++◌, None}
use Rattle.fx_lasting.specs.Words.{ℕ, nat_lt, min, Bool, true, false, List, [], slice_set, map}
use Rattle.fx_lasting.specs.Words.{count_by, Option, Some, IsSome, Step, rest, Identity, ◌▷◌}
use Rattle.fx_lasting.specs.Words.{IsSeenBy, part_of_pass, numbered, File, Event, Action, Look}
use Rattle.fx_lasting.specs.Words.{Release, Put, Allocate, Close, Take, entry_in, name_in, group_at}
use Rattle.fx_lasting.specs.Words.{group_of, account, CountsAll, HasQuestionOf, RANGE_END, Survey}
use Rattle.fx_lasting.specs.Words.{Covered, Change, Outside, Lowered, Inside, Glance, Hot, Cold}
use Rattle.fx_lasting.specs.Words.{Heating, Log, Placement, Round, Start, Work, Announced, Counted}
use Rattle.fx_lasting.specs.Words.{Guarded, Owing, Yielding, Searching, Placing, Renewing, Nearing}
use Rattle.fx_lasting.specs.Words.{Relieving, Emptying, Keeping, Nothing as Unlabelled}
use Rattle.fx_plain.specs.declared.event.Action.TheVariants.{Full}
use Rattle.fx_lasting.specs.slots.SlotAgrees.{Names}
use Rattle.fx_lasting.specs.nodes.Labels.{label_of, as_written}
use Rattle.fx_lasting.specs.life.Layout.{slot_lines, list_place}
use Rattle.fx_lasting.specs.Fields.{full_name_in, heat_in, IsHot, count_in, cold_takes, announced}
use Rattle.fx_lasting.specs.Fields.{IsListedIn}
use Rattle.fx_lasting.specs.nodes.Stocks.{IsInStock}
use Rattle.fx_lasting.specs.slots.Watches.{HasActed}
use Rattle.fx_lasting.specs.Passes.{Sat, slots_of, nodes_of, range_at_start, word_of, IsHistory}
use Rattle.fx_lasting.specs.Passes.{node_of_number, first_log, state_after_all, HoldsAlone}
use Rattle.table_range.specs.declared.views.Survey.TheVariants.{None as NotAsked}
use Rattle.fx_lasting.specs.declared.view.Glance.TheVariants.{None as Nothing}
use Rattle.fx_lasting.specs.declared.view.Work.TheVariants.{Idle, Retiring}
use mathlib.Core.Option.{some}
use lib.ListN.{get_elem?}

-- a step of a table whose places have an open file or none
abbrev pub At : Type 0
At = Step (Option Identity)

-- the slot whose word is there
abbrev pub slot_of : ℕ → ℕ
slot_of place = min ((place - RANGE_END) / 8) 4096 + (place - (RANGE_END + 8 * 4096))

-- the pass whose hold word is there
abbrev pub pass_at : Start → ℕ → ℕ
pass_at k place = (place - (RANGE_END - 8 + 8 * slot_lines (slots_of k))) / 8

-- an action of a pass: a lasting table knows no chains
abbrev pub pass_event : Log → Action → Event
pass_event x action = record { pass = x.number; chain = 0; action = action }

-- the pass of a seat
abbrev pub pass_in : Sat → Log
pass_in m = first_log m.0.logs

-- the nodes that a pass works with are the table's
abbrev pub IsInside : Start → Work → Type 0
IsInside k Idle = Unit {0}
IsInside k (Announced node) = node < nodes_of k
IsInside k (Counted f node) = node < nodes_of k
IsInside k (Guarded f node) = node < nodes_of k
IsInside k (Owing node) = node < nodes_of k
IsInside k (Yielding f node) = node < nodes_of k
IsInside k (Searching node) = node < nodes_of k
IsInside k (Placing node placement) = node < nodes_of k
IsInside k (Renewing f node own placement) = (node < nodes_of k) × (own < nodes_of k)
IsInside k (Nearing node own placement) = (node < nodes_of k) × (own < nodes_of k)
IsInside k (Relieving f node own placement) = (node < nodes_of k) × (own < nodes_of k)
IsInside k (Retiring f node takes round charges) = node < nodes_of k
IsInside k (Emptying node) = node < nodes_of k
IsInside k (Keeping node lost) = node < nodes_of k

-- the pass of the seat is listed
abbrev pub IsOnList : Sat → Type 0
IsOnList m = (pass_in m).listed ≡ true

-- a seat whose pass is listed
abbrev pub as_listed : Sat → Sat
as_listed m = (record m.0 { logs = record (pass_in m) { listed = true } ∷ [] }, m.1)

-- a seat whose pass has set its bit in the question word and visited some groups, or hasn't
abbrev pub as_asked : Survey → Sat → Sat
as_asked asked m = (record m.0 { logs = record (pass_in m) { asked = asked } ∷ [] }, m.1)

-- a seat whose pass has this stock
abbrev pub as_stocked : List ℕ → Sat → Sat
as_stocked stock m = (record m.0 { logs = record (pass_in m) { stock = stock } ∷ [] }, m.1)

-- a seat whose pass has this node at an entry of its stock
abbrev pub as_swapped : (entry node : ℕ) → Sat → Sat
as_swapped entry node m = as_stocked (slice_set (pass_in m).stock entry node) m

-- the word of a slot, full or empty, names a node of the table
abbrev pub NamesANode : Start → ℕ → Type 0
NamesANode k found = (name_in found ≢ 0) × (name_in found - 1 < nodes_of k)

-- how many times a pass found the slot's word changed
abbrev pub changes_in : ℕ → Log → ℕ
changes_in slot x = count_by (λ s. s == slot) x.changed

-- From `least` to `most` steps of a seat with one pass: it saw more of the history and took these
-- actions, and now it does this work
pub record MakesSteps (m : Sat) (actions : List Action) (w : Work) (g : Glance) (c : Change)
    (least most : ℕ) (m' : Sat) : Type 0 where
  pub one : (y : Log) × (m'.0.logs ≡ y ∷ [])
  pub number : (pass_in m').number ≡ (pass_in m).number
  pub seen : IsSeenBy (pass_in m).front (pass_in m').front
  pub legal : IsHistory m.0.start (pass_in m').front
  pub own : part_of_pass (pass_in m).number (pass_in m').front
      ≡ map (pass_event (pass_in m)) actions ++ part_of_pass (pass_in m).number (pass_in m).front
  pub steps : (pass_in m').steps ≤ (pass_in m).steps + most
  pub begun : (pass_in m).steps + least ≤ (pass_in m').steps
  pub listed : (pass_in m').listed ≡ (pass_in m).listed
  pub asked : (pass_in m').asked ≡ (pass_in m).asked
  pub stock : (pass_in m').stock ≡ (pass_in m).stock
  pub met : (pass_in m).watch.met ≤ (pass_in m').watch.met
  pub changes : (slot : ℕ) → changes_in slot (pass_in m) ≤ changes_in slot (pass_in m')
  pub work : m'.0.work ≡ w
  pub inside : IsInside m.0.start w
  pub glance : m'.0.glance ≡ g
  pub change : m'.0.change ≡ c
  pub start : m'.0.start ≡ m.0.start

-- one step
abbrev pub Stepped : Sat → List Action → Work → Glance → Change → Sat → Type 0
Stepped m actions w g c m' = MakesSteps m actions w g c 1 1 m'

-- a step that moves no place
pub record Goes (m : Sat) (actions : List Action) (w : Work) (g : Glance) (m' : Sat) : Type 0 where
  pub stepped : Stepped m actions w g m.0.change m'
  pub carried : m'.1 ≡ m.1

-- the pass watches the slot, whose word it has just found so
pub record IsWatching (slot found : ℕ) (m : Sat) : Type 0 where
  pub its_slot : (pass_in m).watch.slot ≡ slot
  pub word : (pass_in m).watch.word ≡ found
  pub front : (pass_in m).watch.front ≡ (pass_in m).front

-- the pass met another one in the middle of a call
abbrev pub MeetsOne : Sat → Sat → Type 0
MeetsOne m m' = ((pass_in m).watch.met < (pass_in m').watch.met) × (1 < m.0.start.passes)

-- the pass found the slot's word changed
abbrev pub FindsChange : ℕ → Sat → Sat → Type 0
FindsChange slot m m' = changes_in slot (pass_in m) < changes_in slot (pass_in m')

-- the pass found the slot's word changed: another pass acted at the slot since the pass saw the
-- word, or heated the slot
abbrev pub IsOvertaken : ℕ → Sat → Sat → Type 0
IsOvertaken slot m m' = FindsChange slot m m'
    × (HasActed slot (pass_in m).number (pass_in m).watch.front (pass_in m').front ⊎ MeetsOne m m')

-- a slot of the range has no file
pub record HasGap (k : Start) (h : List Event) : Type 0 where
  pub slot : ℕ
  pub low : (range_at_start k).0 ≤ slot
  pub high : slot < (range_at_start k).0 + (range_at_start k).1
  pub empty : (state_after_all k h).at slot ≡ None

-- each slot of the group has a file
abbrev pub IsGroupFull : Start → ℕ → List Event → Type 0
IsGroupFull k group h = let range = range_at_start k in (slot : ℕ) → range.0 ≤ slot
    → slot < range.0 + range.1 → group_of range slot ≡ group
    → IsSome ((state_after_all k h).at slot)

-- Glance: an empty slot is looked up at once. Of a hot one a listed pass is to announce the node;
-- what another one names is to be taken
pub record Glances (st : At) (m : Sat) (found : ℕ) (m' : Sat) : Type 0 where
  pub empty : full_name_in found ≡ 0 → Goes m ([] ▷ Look (slot_of st.word) None) Idle Nothing m'
  pub cold : (node : ℕ) → full_name_in found ≡ node + 1 → (IsHot found × IsOnList m → ⊥)
      → Goes m [] Idle (Cold (slot_of st.word)) m'
  pub hot : (node : ℕ) → full_name_in found ≡ node + 1 → IsHot found → IsOnList m
      → Goes m [] Idle (Hot (slot_of st.word) node) m' × (node < nodes_of m.0.start)

-- List: the list has the pass's bit
pub record Lists (st : At) (m : Sat) (found : ℕ) (m' : Sat) : Type 0 where
  pub goes : Goes (as_listed m) [] m.0.work m.0.glance m'

-- the work of a pass with this one, once its hold word names the node
abbrev pub announcing : ℕ → Work → Work
announcing node (Placing own placement) = Nearing node own placement
announcing node _ = Announced node

-- the work of a pass with this one, once it holds the file whose node it announced
abbrev pub guarding : File → Work → Work
guarding f (Announced node) = Guarded f node
guarding f (Nearing node own placement) = Relieving f node own placement
guarding f w = w

-- the hold word of a pass names the node, and it holds nothing yet
abbrev pub HasAnnounced : Work → ℕ → Type 0
HasAnnounced w node = (w ≡ Announced node)
    ⊎ ((own : ℕ) × (placement : Placement) × (w ≡ Nearing node own placement))

-- Announce: the hold word names the node
pub record Announces (st : At) (m : Sat) (found : ℕ) (m' : Sat) : Type 0 where
  pub goes : (slot node : ℕ) → m.0.glance ≡ Hot slot node
      → Goes m [] (announcing node m.0.work) m.0.glance m'

-- the word of a slot says of the file what its taker needs
abbrev pub Shows : ℕ → File → Type 0
Shows found f = entry_in found ≡ f.identity.entry

-- Confirm: where the slot is hot and names the node still, its file is held; else the announcement
-- is to be withdrawn, and what the slot names now is to be taken
pub record Confirms (st : At) (m : Sat) (found : ℕ) (m' : Sat) : Type 0 where
  pub holds : (slot node : ℕ) → m.0.glance ≡ Hot slot node → HasAnnounced m.0.work node
      → full_name_in found ≡ node + 1 → IsHot found
      → (f : File) × Shows found f
      × Goes m ([] ▷ Look slot (Some f)) (guarding f m.0.work) Nothing m'
  pub moved : (slot node : ℕ) → m.0.glance ≡ Hot slot node → HasAnnounced m.0.work node
      → ((full_name_in found ≡ node + 1) × IsHot found → ⊥)
      → Goes m [] m.0.work (Cold slot) m'

-- Withdraw: a charge that was found is owed
pub record Withdraws (st : At) (m : Sat) (found : ℕ) (m' : Sat) : Type 0 where
  pub clean : (node : ℕ) → m.0.work ≡ Announced node → found ≡ announced node
      → Goes m [] Idle m.0.glance m'
  pub charged : (node : ℕ) → m.0.work ≡ Announced node → found ≢ announced node
      → Goes m [] (Owing node) m.0.glance m'

-- how far a look-up is that took what a slot named, whose word it found so, in a table with these
-- passes
abbrev pub glance_after : ℕ → ℕ → ℕ → Glance
glance_after passes slot found =
    if nat_lt (count_in found) (cold_takes passes) then Nothing else Heating slot

-- Take: the file that the slot names is held by a take, if there is one. The pass does the one work
-- if there is none, and the other work if it holds one
pub record TakesAs (none : Work) (holding : File → ℕ → Work) (st : At) (m : Sat) (found : ℕ)
    (m' : Sat) : Type 0 where
  pub empty : (slot : ℕ) → m.0.glance ≡ Cold slot → full_name_in found ≡ 0
      → Goes m ([] ▷ Look slot None) none (glance_after m.0.start.passes slot found) m'
  pub holds : (slot node : ℕ) → m.0.glance ≡ Cold slot → full_name_in found ≡ node + 1
      → (f : File) × Shows found f
      × Goes m ([] ▷ Look slot (Some f)) (holding f node)
      (glance_after m.0.start.passes slot found) m'

-- Take, by an idle pass
abbrev pub Takes : At → Sat → ℕ → Sat → Type 0
Takes = TakesAs Idle Counted

-- Heat: one pass more heated the slot
pub record HeatsSlot (st : At) (m : Sat) (found : ℕ) (m' : Sat) : Type 0 where
  pub goes : Goes m [] m.0.work Nothing m'

-- Step down: a hold by the hold word ends at once where it wasn't charged
pub record StepsDown (st : At) (m : Sat) (found : ℕ) (m' : Sat) : Type 0 where
  pub clean : (f : File) (node : ℕ) → m.0.work ≡ Guarded f node → found ≡ announced node
      → Goes m ([] ▷ Release f) Idle m.0.glance m'
  pub charged : (f : File) (node : ℕ) → m.0.work ≡ Guarded f node → found ≢ announced node
      → Goes m [] (Yielding f node) m.0.glance m'

-- the file is closed, and with the pass
pub record TakesOut (m : Sat) (actions : List Action) (f : File) (node : ℕ)
    (m' : Sat) : Type 0 where
  pub stepped : Stepped m (actions ▷ Close f) (Emptying node) m.0.glance m.0.change m'
  pub carried : m'.1 ≡ (node, Some f.identity) ∷ m.1

-- where the word was 2, nobody else had still to let the file go
abbrev pub LetsGo : Sat → List Action → ℕ → ℕ → Sat → Type 0
LetsGo m actions node found m' = (found ≢ 2 → Goes m actions Idle m.0.glance m')
    × (found ≡ 2 → (f : File) × TakesOut m actions f node m')

-- Drop, of a charge or of a take
pub record LettingGo (st : At) (m : Sat) (found : ℕ) (m' : Sat) : Type 0 where
  pub owed : (node : ℕ) → m.0.work ≡ Owing node → LetsGo m [] node found m'
  pub yielded : (f : File) (node : ℕ) → m.0.work ≡ Yielding f node
      → (found ≢ 2 → Goes m ([] ▷ Release f) Idle m.0.glance m')
      × (found ≡ 2 → TakesOut m ([] ▷ Release f) f node m')
  pub counted : (f : File) (node : ℕ) → m.0.work ≡ Counted f node
      → (found ≢ 2 → Goes m ([] ▷ Release f) Idle m.0.glance m')
      × (found ≡ 2 → TakesOut m ([] ▷ Release f) f node m')

-- Seek, of a node's word: where it is 0 the node is free, and the pass may use it; else another
-- node of its stock is free, and it stays so while the pass looks on
pub record Seeks (st : At) (m : Sat) (found : ℕ) (m' : Sat) : Type 0 where
  pub node : ℕ
  pub goes : Goes m [] (Searching node) m.0.glance m'
  pub stock : IsInStock (pass_in m).stock node
  pub here : found ≡ 0 → st.word ≡ word_of m.0.start node
  pub other : found ≢ 0 → st.word ≢ word_of m.0.start node
  pub stays : (n : ℕ) → m.0.work ≡ Searching n → found ≢ 0 → node ≡ n

-- Birth: the place of the node is with the pass
pub record Births (st : At) (m : Sat) (found : ℕ) (m' : Sat) : Type 0 where
  pub goes : (node : ℕ) → m.0.work ≡ Searching node
      → Stepped m [] (Placing node (as_written 0 Unlabelled)) m.0.glance m.0.change m'
      × (m'.1 ≡ (node, None) ∷ m.1)

-- what a pass does after a rest: a node whose file was not installed is free, and the pass holds
-- what it held
abbrev pub rested : Work → Work
rested (Placing node placement) = Searching node
rested (Renewing f node own placement) = Counted f node
rested (Nearing node own placement) = Announced node
rested (Relieving f node own placement) = Guarded f node
rested _ = Idle

-- Rest: the place is home, without a file
pub record Rests (st : At) (m : Sat) (found : ℕ) (m' : Sat) : Type 0 where
  pub stepped : Stepped m [] (rested m.0.work) m.0.glance m.0.change m'
  pub carried : m'.1 ≡ rest m.1

-- how far a round is that visits this pass, or loads this word of the list
abbrev pub round_at : Round → ℕ → Round
round_at round pass = record round { next = pass + 1 }

abbrev pub round_from : ℕ → ℕ → Round
round_from place found = record {
  next = 64 * (place - 6) + 1;
  words = place - 5;
  last = found;
  guarded = false;
}

-- End of a hold: the hold word of a pass that removed the file it held names no node any more
pub record EndsItsHold (st : At) (m : Sat) (found : ℕ) (m' : Sat) : Type 0 where
  pub goes : (f : File) (node takes : ℕ) (round : Round) (charges : ℕ)
      → m.0.work ≡ Retiring f node takes round charges
      → Goes m [] (Retiring f node takes (record round { guarded = false }) charges) m.0.glance m'

-- Skim, of a word of the list: of its passes, those without their bits need no visit
pub record Skims (st : At) (m : Sat) (found : ℕ) (m' : Sat) : Type 0 where
  pub goes : (f : File) (node takes : ℕ) (round : Round) (charges : ℕ)
      → m.0.work ≡ Retiring f node takes round charges
      → Goes m [] (Retiring f node takes (round_from st.word found) charges) m.0.glance m'
  -- the others are passes of the table
  pub inside : (p : ℕ) → 0 < p → p ≤ 1024 → list_place p ≡ st.word → IsListedIn found p
      → p ≤ m.0.start.passes

-- Visit, of a hold word: one that doesn't name the node isn't charged
pub record Visits (st : At) (m : Sat) (found : ℕ) (m' : Sat) : Type 0 where
  pub other : (f : File) (node takes : ℕ) (round : Round) (charges : ℕ)
      → m.0.work ≡ Retiring f node takes round charges
      → found ≢ announced node
      → Goes m [] (Retiring f node takes (round_at round (pass_at m.0.start st.word)) charges)
      m.0.glance m'
  pub names : (f : File) (node takes : ℕ) (round : Round) (charges : ℕ)
      → m.0.work ≡ Retiring f node takes round charges
      → found ≡ announced node → Goes m [] (Retiring f node takes round charges) m.0.glance m'

-- Charge: it is counted where it was made
pub record Charges (st : At) (m : Sat) (found : ℕ) (m' : Sat) : Type 0 where
  pub made : (f : File) (node takes : ℕ) (round : Round) (charges : ℕ)
      → m.0.work ≡ Retiring f node takes round charges
      → found ≡ announced node
      → Goes m [] (Retiring f node takes (round_at round (pass_at m.0.start st.word)) (charges + 1))
      m.0.glance m'
  pub missed : (f : File) (node takes : ℕ) (round : Round) (charges : ℕ)
      → m.0.work ≡ Retiring f node takes round charges
      → found ≢ announced node
      → Goes m [] (Retiring f node takes (round_at round (pass_at m.0.start st.word)) charges)
      m.0.glance m'

-- Retire: where the word was 1 more than what was subtracted, nobody has still to let the file go
pub record Retires (st : At) (m : Sat) (found : ℕ) (m' : Sat) : Type 0 where
  pub waits : (f : File) (node takes : ℕ) (round : Round) (charges : ℕ)
      → m.0.work ≡ Retiring f node takes round charges
      → found ≢ st.first + 1
      → Goes m [] Idle m.0.glance m'
      × ((state_after_all m.0.start (pass_in m').front).removed f.number ≡ Some f)
  pub closes : (f : File) (node takes : ℕ) (round : Round) (charges : ℕ)
      → m.0.work ≡ Retiring f node takes round charges
      → found ≡ st.first + 1 → TakesOut m [] f node m'

-- where the visits of a retirement begin: a file of a slot that wasn't hot is held by takes alone
abbrev pub first_visit : ℕ → ℕ → ℕ
first_visit passes found = if heat_in found == 0 then passes + 1 else 1

-- a round that begins with this pass, and has loaded no word of the list
abbrev pub new_round : ℕ → Round
new_round first = record { next = first; words = 0; last = 0; guarded = false }

-- one of a hot file that the pass held by its hold word
abbrev pub guarded_round : Round
guarded_round = record { next = 1; words = 0; last = 0; guarded = true }

-- what a pass does that removed this file, or found none, and is to make this round
abbrev pub removal_work : Round → ℕ → Option File → Work
removal_work round found None = Idle
removal_work round found (Some f) =
    Retiring f (full_name_in found - 1) (count_in found) round 0

abbrev pub retiring_work : Start → ℕ → Option File → Work
retiring_work k found file = removal_work (new_round (first_visit k.passes found)) found file

-- what a pass does that removed this file, which it held by its hold word or by a take
abbrev pub leaving_work : Start → Bool → ℕ → File → Work
leaving_work k true found f = removal_work guarded_round found (Some f)
leaving_work k false found f = retiring_work k (found - 1) (Some f)

-- the word of a slot whose file a pass holds so: it is hot, or has the pass's take
abbrev pub HasItsHold : Bool → ℕ → Type 0
HasItsHold true found = IsHot found
HasItsHold false found = 0 < count_in found

-- what a swap found
abbrev pub Found : ℕ → Option File → Type 0
Found found None = full_name_in found ≡ 0
Found found (Some f) = (full_name_in found ≢ 0) × Shows found f

-- Swap, to the word of the file that the pass places: the file has a number that none had before,
-- and which says its node. The node that the word named takes the place of the file's in the stock
pub record Installs (st : At) (m : Sat) (found : ℕ) (m' : Sat) : Type 0 where
  pub replaced : Option File
  pub names : Found found replaced
  pub named : NamesANode m.0.start found
  pub stepped : (n lost entry : ℕ) (file : Identity)
      → m.0.work ≡ Placing n (as_written lost (label_of file))
      → m.1 ≡ (n, Some file) ∷ []
      → get_elem? (pass_in m).stock entry ≡ some n
      → (number : ℕ) × (node_of_number m.0.start number ≡ n)
      × Stepped (as_swapped entry (name_in found - 1) m)
      ([] ▷ Put (slot_of st.word) (numbered number file) replaced)
      (retiring_work m.0.start found replaced) m.0.glance
      (account (range_at_start m.0.start) (slot_of st.word) replaced) m'
  pub carried : m'.1 ≡ rest m.1

-- And, to an empty slot's word
pub record Removes (st : At) (m : Sat) (found : ℕ) (m' : Sat) : Type 0 where
  pub file : Option File
  pub names : Found found file
  pub stepped : Stepped m ([] ▷ Take (slot_of st.word) file) (retiring_work m.0.start found file)
      m.0.glance (account (range_at_start m.0.start) (slot_of st.word) file) m'
  pub carried : m'.1 ≡ m.1

-- a step that changes the pass's account alone
pub record Turns (change : Change) (m m' : Sat) : Type 0 where
  pub stepped : Stepped m [] m.0.work m.0.glance change m'
  pub carried : m'.1 ≡ m.1

-- Lower, of a group's word: the pass has to load the question word before it empties a slot
pub record Lowers (st : At) (m : Sat) (found : ℕ) (m' : Sat) : Type 0 where
  pub turns : Turns (Lowered (group_at st.word)) m m'

-- Check, of the question word: where nobody asks, the pass may empty a slot of the group
pub record Checks (st : At) (m : Sat) (found : ℕ) (m' : Sat) : Type 0 where
  pub quiet : (group : ℕ) → m.0.change ≡ Lowered group → found ≡ 0 → Turns (Inside group) m m'
  pub asked : found ≢ 0 → Goes m [] m.0.work m.0.glance m'

-- Break: nobody's question is there any more, and the pass may empty a slot of the group
pub record Breaks (st : At) (m : Sat) (found : ℕ) (m' : Sat) : Type 0 where
  pub turns : (group : ℕ) → m.0.change ≡ Lowered group → Turns (Inside group) m m'

-- Raise, of a group's word
pub record Raises (st : At) (m : Sat) (found : ℕ) (m' : Sat) : Type 0 where
  pub turns : Turns Outside m m'

-- Begin, of the question word: the pass has visited no group yet, and has set its bit or hasn't
pub record Begins (st : At) (m : Sat) (found : ℕ) (m' : Sat) : Type 0 where
  pub there : HasQuestionOf found (pass_in m).number
      → Goes (as_asked (Covered 0) m) [] m.0.work m.0.glance m'
  pub gone : (HasQuestionOf found (pass_in m).number → ⊥)
      → Goes (as_asked NotAsked m) [] m.0.work m.0.glance m'
  pub asks : HasQuestionOf found (pass_in m).number → (pass_in m').watch.asks ≡ true

-- Ask: the question word has the pass's bit
pub record Asks (st : At) (m : Sat) (found : ℕ) (m' : Sat) : Type 0 where
  pub goes : Goes (as_asked (Covered 0) m) [] m.0.work m.0.glance m'
  pub asks : (pass_in m').watch.asks ≡ true

-- Count, of the word of the next group: where it counts all slots of the group, one group more is
-- visited
pub record Counts (st : At) (m : Sat) (found : ℕ) (m' : Sat) : Type 0 where
  pub full : CountsAll (range_at_start m.0.start).1 (group_at st.word) found
      → Goes (as_asked (Covered (group_at st.word + 1)) m) [] m.0.work m.0.glance m'
  pub less : (CountsAll (range_at_start m.0.start).1 (group_at st.word) found → ⊥)
      → Goes m [] m.0.work m.0.glance m'
  pub asks : (pass_in m').watch.asks ≡ (pass_in m).watch.asks
  -- a slot of the group has no file, or another pass has still to count one
  pub short : (CountsAll (range_at_start m.0.start).1 (group_at st.word) found → ⊥)
      → m.0.change ≡ Outside → HasGap m.0.start (pass_in m').front ⊎ MeetsOne m m'

-- Decide, of the question word, by a pass that has visited all groups: where its bit is still
-- there, every slot of the range is full
pub record Decides (st : At) (m : Sat) (found : ℕ) (m' : Sat) : Type 0 where
  pub full : HasQuestionOf found (pass_in m).number → Goes m ([] ▷ Full) m.0.work m.0.glance m'
  pub broken : (HasQuestionOf found (pass_in m).number → ⊥)
      → Goes (as_asked NotAsked m) [] m.0.work m.0.glance m'
  -- another pass has cleared the bit
  pub met : (HasQuestionOf found (pass_in m).number → ⊥) → (pass_in m).watch.asks ≡ true
      → MeetsOne m m'

-- Peek, of a group's word: where it counts all slots of the group, they are full
pub record Peeks (st : At) (m : Sat) (found : ℕ) (m' : Sat) : Type 0 where
  pub goes : Goes m [] m.0.work m.0.glance m'
  pub full : CountsAll (range_at_start m.0.start).1 (group_at st.word) found
      → IsGroupFull m.0.start (group_at st.word) (pass_in m').front

-- See, of a slot's word: the pass has seen what is at the slot, and watches it. If it watched the
-- slot before, and the word has changed, another pass was there
pub record Sees (st : At) (m : Sat) (found : ℕ) (m' : Sat) : Type 0 where
  pub goes : Goes m [] m.0.work m.0.glance m'
  pub names : Names (node_of_number m.0.start) found
      ((state_after_all m.0.start (pass_in m').front).at (slot_of st.word))
  pub named : NamesANode m.0.start found
  pub watches : IsWatching (slot_of st.word) found m'
  pub overtaken : (pass_in m).watch.slot ≡ slot_of st.word → found ≢ (pass_in m).watch.word
      → IsOvertaken (slot_of st.word) m m'
  -- the word names the node of the file that the pass holds if and only if the slot has this file
  pub current : (f : File) (node : ℕ) → HoldsAlone m.0.work f node
      → (full_name_in found ≡ node + 1)
      ↔ ((state_after_all m.0.start (pass_in m').front).at (slot_of st.word) ≡ Some f)

-- Exchange: the file that the pass places is at the slot, which was empty; or nothing changed
pub record Exchanges (st : At) (m : Sat) (found : ℕ) (m' : Sat) : Type 0 where
  pub wins : (n lost entry : ℕ) (file : Identity)
      → m.0.work ≡ Placing n (as_written lost (label_of file))
      → m.1 ≡ (n, Some file) ∷ []
      → get_elem? (pass_in m).stock entry ≡ some n → found ≡ st.first
      → (number : ℕ) × (node_of_number m.0.start number ≡ n) × NamesANode m.0.start found
      × Stepped (as_swapped entry (name_in found - 1) m)
      ([] ▷ Allocate (slot_of st.word) (numbered number file)) Idle m.0.glance
      (Inside (group_of (range_at_start m.0.start) (slot_of st.word))) m'
      × (m'.1 ≡ rest m.1)
  pub loses : found ≢ st.first → Sees st m found m'
