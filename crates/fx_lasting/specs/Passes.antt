-- Views of passes, and their sums.
use Rattle.std.specs.Prelude.{◌≡◌, ◌%◌, ◌⊎◌, ◌==◌, ◌∷◌, if◌then◌else◌, None}
use Rattle.fx_lasting.specs.Words.{ℕ, not, nat_lt, List, [], map, Option, replicate, Some, length}
use Rattle.fx_lasting.specs.Words.{Bool, true, false, Me, Identity, Contents, state_of, state_after}
use Rattle.fx_lasting.specs.Words.{action_of, IsLegal, Event, File, Log, Start, View, Watch}
use Rattle.fx_lasting.specs.Words.{MOST_SLOTS, Work, Counted, Guarded, Yielding, Searching, Placing}
use Rattle.fx_lasting.specs.Words.{Renewing, Nearing, Relieving, Placement}
use Rattle.atomic_table.specs.Table.{State as TableState}
use Rattle.fx_plain.specs.State.{State, opening}
use Rattle.fx_lasting.specs.life.Layout.{stock_for, stock_of, nodes_for, hold_place, node_place}
use Rattle.fx_lasting.specs.life.Layout.{tag_place, number_place}
use Rattle.table_range.specs.declared.views.Survey.TheVariants.{None as NotAsked}
use Rattle.fx_lasting.specs.declared.view.Work.TheVariants.{Idle}

-- the table as steps see it: a place has an open file or none
abbrev pub Shared : Type 0
Shared = TableState (Option Identity) View

-- a seat's view, and the places that are with it
abbrev pub Sat : Type 0
Sat = Me (Option Identity) View

-- `size` empty slots with this allocation range, which have had no files
abbrev pub empty_slots : (size : ℕ) (range : ℕ × ℕ) → Contents
empty_slots size range = record {
  slots = replicate size None;
  range = range;
  nodes = [];
  holds = [];
  numbers = 0;
}

-- the slots with which the table was opened
abbrev pub contents_of : Start → Contents
contents_of k = empty_slots k.size (k.range_start, k.range_len)

-- the state that passes begin with: the file at a slot has the slot's number, and every number
-- after those of the slots is fresh
abbrev pub state_at_start : Start → State
state_at_start k = record (opening (state_of (contents_of k)) 0) {
  fresh = λ number. not (nat_lt number (state_of (contents_of k)).size);
}

abbrev pub slots_of : Start → ℕ
slots_of k = (state_of (contents_of k)).size

abbrev pub range_at_start : Start → ℕ × ℕ
range_at_start k = (state_of (contents_of k)).range

-- how many nodes it has
abbrev pub nodes_of : Start → ℕ
nodes_of k = nodes_for (slots_of k) k.passes k.installing

-- the node of a file: an installation draws the file's number so that the number says the node
abbrev pub node_of_number : Start → ℕ → ℕ
node_of_number k number = number % nodes_of k

-- where the word of a node is, and the hold word of a pass
abbrev pub word_of : Start → ℕ → ℕ
word_of k node = node_place (slots_of k) k.passes node

-- where the two words of a node's label are
abbrev pub tag_word_of : Start → ℕ → ℕ
tag_word_of k node = tag_place (slots_of k) k.passes node

abbrev pub number_word_of : Start → ℕ → ℕ
number_word_of k node = number_place (slots_of k) k.passes node

abbrev pub hold_word_of : Start → ℕ → ℕ
hold_word_of k pass = hold_place (slots_of k) pass

-- the state that a history leads to
abbrev pub state_after_all : Start → List Event → State
state_after_all k h = state_after (state_at_start k) (map action_of h)

abbrev pub IsHistory : Start → List Event → Type 0
IsHistory k h = IsLegal (state_at_start k) h (state_after_all k h)

-- the number of nodes that a pass has in stock, and these nodes at first
abbrev pub stock_len : Start → ℕ → ℕ
stock_len k p = stock_for k.passes k.installing p

abbrev pub first_stock : Start → ℕ → List ℕ
first_stock k p = stock_of (slots_of k) k.passes k.installing p

-- the watch of a pass that has loaded no word
abbrev pub new_watch : Watch
new_watch = record { slot = MOST_SLOTS; word = 0; front = []; asks = false; met = 0 }

-- a pass that has seen and done nothing
abbrev pub log_with : ℕ → List ℕ → Log
log_with p stock = record {
  number = p;
  front = [];
  steps = 0;
  listed = false;
  asked = NotAsked;
  stock = stock;
  watch = new_watch;
  changed = [];
}

abbrev pub new_log : Start → ℕ → Log
new_log k p = log_with p (first_stock k p)

-- the one pass of a seat
abbrev pub first_log : List Log → Log
first_log [] = log_with 0 []
first_log (x ∷ xs) = x

-- the file that the pass holds
abbrev pub held_in : Work → Option File
held_in (Counted f node) = Some f
held_in (Guarded f node) = Some f
held_in (Yielding f node) = Some f
held_in (Renewing f node own placement) = Some f
held_in (Relieving f node own placement) = Some f
held_in _ = None

-- the pass holds the file of the node, by a take or by its hold word, and has no other node
abbrev pub HoldsAlone : Work → File → ℕ → Type 0
HoldsAlone w f node = (w ≡ Counted f node) ⊎ (w ≡ Guarded f node)

-- the pass holds the file of the node so, and is about to install another one in its place
abbrev pub HoldsBesides : Work → File → (node own : ℕ) → Placement → Type 0
HoldsBesides w f node own placement =
    (w ≡ Renewing f node own placement) ⊎ (w ≡ Relieving f node own placement)

abbrev pub IsRenewing : Work → File → ℕ → Type 0
IsRenewing w f node =
    (own : ℕ) × (placement : Placement) × HoldsBesides w f node own placement

-- the pass holds the file of the node, by a take or by its hold word
abbrev pub HoldsOn : Work → File → ℕ → Type 0
HoldsOn w f node = (w ≡ Counted f node) ⊎ ((w ≡ Guarded f node) ⊎ IsRenewing w f node)

-- the work that a pass does with a node alone
abbrev pub alone_in : Work → Work
alone_in (Renewing f node own placement) = Placing own placement
alone_in (Nearing node own placement) = Placing own placement
alone_in (Relieving f node own placement) = Placing own placement
alone_in w = w

-- the pass holds its file by its hold word
abbrev pub is_guarding : Work → Bool
is_guarding (Guarded f node) = true
is_guarding (Relieving f node own placement) = true
is_guarding _ = false

-- the pass does nothing, or has found a free node
abbrev pub HasNoFile : Work → Type 0
HasNoFile w = (w ≡ Idle) ⊎ ((node : ℕ) × (w ≡ Searching node))

-- 1 where the file has the number, and else 0
abbrev pub if_file : ℕ → Option File → ℕ
if_file number None = 0
if_file number (Some f) = if f.number == number then 1 else 0

-- 1 where a view's pass holds the file of the number, and else 0
abbrev pub held_of : ℕ → View → ℕ
held_of number v = if_file number (held_in v.work)

-- 1 where the pass holds the file of the node by a take, and else 0
abbrev pub taking : ℕ → Work → ℕ
taking node (Counted f n) = if n == node then 1 else 0
taking node (Renewing f n own placement) = if n == node then 1 else 0
taking node _ = 0

abbrev pub taken_of : ℕ → View → ℕ
taken_of node v = taking node v.work

-- how many passes a seat has
abbrev pub lengths : View → ℕ
lengths v = length v.logs
