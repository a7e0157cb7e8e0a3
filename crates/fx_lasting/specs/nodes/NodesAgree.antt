-- The rule of nodes: the word, the place and the label of each, who works with it, and where it
-- is.
use Rattle.std.specs.Prelude.{◌≡◌, ◌+◌, ◌^◌, ◌<◌, ◌≤◌, None}
use Rattle.fx_lasting.specs.Words.{ℕ, true, List, Option, Some, Contains, sum_by, slice_index}
use Rattle.fx_lasting.specs.Words.{Identity, Event, File, Log, Round, Start, View, Work, Written}
use Rattle.fx_lasting.specs.Words.{Placing, Emptying, Keeping}
use Rattle.fx_lasting.specs.Counts.{owed}
use Rattle.fx_lasting.specs.nodes.Labels.{HasWritten}
use Rattle.fx_lasting.specs.life.Layout.{slot_place}
use Rattle.fx_lasting.specs.Fields.{count_in, birth_word, closed_word, most_carried}
use Rattle.fx_lasting.specs.Passes.{Shared, slots_of, nodes_of, word_of, tag_word_of}
use Rattle.fx_lasting.specs.Passes.{number_word_of, state_after_all, alone_in, taken_of}
use Rattle.fx_lasting.specs.nodes.Phases.{Phase, free, placed, seated, leaving, retired, emptied}
use Rattle.fx_lasting.specs.nodes.Phases.{kept, removed_in, written_in}
use Rattle.fx_lasting.specs.nodes.Stocks.{Whereabouts, NamesItsNode, StockAgrees}
use Rattle.fx_lasting.specs.declared.view.Work.TheVariants.{Retiring}
use mathlib.Core.Option.{some, none}
use mathlib.Core.Option as maybe
use lib.ListN.{get_elem?}

-- where the numbers of files are
abbrev pub Nodes : Type 0
Nodes = ℕ → ℕ

-- what lies in a node's place: nothing, while the place is with a pass, or else a file or none
abbrev pub Home : Type 0
Home = maybe.Option (maybe.Option (Option Identity))

-- the file lies in the node's place, and its number is on this node
pub record IsFileOfNode (node_of : Nodes) (next_number node : ℕ) (home : Home)
    (f : File) : Type 0 where
  pub at_home : home ≡ some (some (Some f.identity))
  pub its_node : node_of f.number ≡ node
  pub used : f.number < next_number

-- One node: its word, what lies in its place, the takes that it counts, and the charges owed to it
module _ (at : ℕ → Option File) (size : ℕ) (takes_at : ℕ → ℕ) (node_of : Nodes)
    (next_number node word taken owing : ℕ) (home : Home) where
  -- it has no file
  pub record IsVacant (first : ℕ) (lies : Home) : Type 0 where
    pub counts : word ≡ first
    pub at_home : home ≡ lies
    pub untaken : taken ≡ 0
    pub unowed : owing ≡ 0

  -- it has no file, and its word is that of a birth, less the few takes that it has lost
  pub record IsBorn (lost : ℕ) (lies : Home) : Type 0 where
    pub counts : word + lost ≡ birth_word
    pub few_lost : lost ≤ most_carried
    pub at_home : home ≡ lies
    pub untaken : taken ≡ 0
    pub unowed : owing ≡ 0

  -- its file is at the slot: nothing is owed to it
  pub record IsAtSlot (slot : ℕ) (f : File) : Type 0 where
    pub file : IsFileOfNode node_of next_number node home f
    pub counts : word + takes_at slot ≡ birth_word + taken
    pub few : word ≤ birth_word
    pub unowed : owing ≡ 0
    pub inside : slot < size
    pub there : at slot ≡ Some f

  -- its file was removed: the takes that were found, and the charges that were made
  pub record IsLeaving (takes : ℕ) (round : Round) (charges : ℕ) (f : File) : Type 0 where
    pub file : IsFileOfNode node_of next_number node home f
    pub counts : word + takes + charges ≡ birth_word + taken + owing
    pub few_takes : takes < 2 ^ 20
    pub few_charges : charges < round.next
    pub few_visits : round.next ≤ 2 ^ 16
    -- no pass visits before the pass that removed the file has ended its hold
    pub unowed : round.guarded ≡ true → owing ≡ 0

  -- its file was retired: the word counts who has still to let it go
  pub record IsRetired (f : File) : Type 0 where
    pub file : IsFileOfNode node_of next_number node home f
    pub counts : word ≡ closed_word + taken + owing
    pub somebody : 0 < taken + owing

  -- its file is closed, and comes out: the word isn't that of a free node
  pub record IsEmptied : Type 0 where
    pub counts : 0 < word
    pub at_home : home ≡ some none
    pub untaken : taken ≡ 0
    pub unowed : owing ≡ 0

  -- what the node's phase says
  abbrev pub NodeAgrees : Phase → Type 0
  NodeAgrees free = IsVacant 0 (some (some None))
  NodeAgrees (placed seat placement) = IsBorn placement.lost (some none)
  NodeAgrees (seated slot f) = IsAtSlot slot f
  NodeAgrees (leaving seat takes round charges f) = IsLeaving takes round charges f
  NodeAgrees (retired f) = IsRetired f
  NodeAgrees (emptied seat) = IsEmptied
  NodeAgrees (kept seat lost) = IsBorn lost (some (some None))

-- the label of the node is so, as far as it is written
abbrev pub Labels : Start → List ℕ → ℕ → Written → Type 0
Labels k words node written =
    HasWritten written (slice_index words (tag_word_of k node))
    (slice_index words (number_word_of k node))

-- the pass of the seat does this work with a node alone
abbrev pub Does : List View → ℕ → Work → Type 0
Does views seat work = (v : View) × (get_elem? views seat ≡ some v) × (alone_in v.work ≡ work)

-- a node that a pass works with alone is known to the pass
abbrev pub OwnerAgrees : List View → ℕ → Phase → Type 0
OwnerAgrees views node (placed seat placement) = Does views seat (Placing node placement)
OwnerAgrees views node (leaving seat takes round charges f) =
    Does views seat (Retiring f node takes round charges)
OwnerAgrees views node (emptied seat) = Does views seat (Emptying node)
OwnerAgrees views node (kept seat lost) = Does views seat (Keeping node lost)
OwnerAgrees views node _ = Unit {0}

-- the nodes: their words and places, who works with them, the files that they have, and where
-- they are
pub record NodesAgree (k : Start) (s : Shared) (h : List Event) (phase : ℕ → Phase)
    (node_of : Nodes) (debt : ℕ → ℕ) : Type 0 where
  -- from where on no number is used
  pub next_number : ℕ
  pub each : (n : ℕ) → n < nodes_of k
      → NodeAgrees (state_after_all k h).at (slots_of k)
      (λ slot. count_in (slice_index s.words (slot_place slot))) node_of next_number n
      (slice_index s.words (word_of k n)) (sum_by (taken_of n) s.views) (owed debt k.passes n)
      (get_elem? s.homes n) (phase n)
  pub owners : (n : ℕ) → n < nodes_of k → OwnerAgrees s.views n (phase n)
  -- the two words of a node's label are those of its file
  pub labels : (n : ℕ) → n < nodes_of k → Labels k s.words n (written_in (phase n))
  -- what was removed and isn't closed is what nodes have that aren't at a slot
  pub removed : (number : ℕ)
      → (state_after_all k h).removed number ≡ removed_in number (phase (node_of number))
  pub unborn : (n : ℕ) → nodes_of k ≤ n → phase n ≡ free
  pub fresh : (number : ℕ) → next_number ≤ number
      → (state_after_all k h).fresh number ≡ true
  -- each node is named by one slot, or in one stock
  pub where_is : ℕ → Whereabouts
  pub named : (slot : ℕ) → slot < slots_of k
      → NamesItsNode k where_is slot (slice_index s.words (slot_place slot))
  pub stocks : (seat : ℕ) (v : View) (x : Log) → get_elem? s.views seat ≡ some v
      → Contains v.logs x → StockAgrees k where_is x.number x.stock
