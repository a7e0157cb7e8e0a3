-- The turn of a seat with one pass, and what each law of a step asks of it.
use Rattle.fx_lasting.proofs.Words.{◌≡◌, ℕ, ◌+◌, ◌<◌, ◌≤◌, List, [], ◌∷◌, sym, subst, arith, get_or, Option, some, get_elem?, Closed, Event, Bool, Allows}
use Rattle.fx_lasting.proofs.Words.{stepped, Act, Valid, carried_after, Agrees, slot_place, Shared, range_at_start, Sat, HasPass, Change, Glance, Log, Start}
use Rattle.fx_lasting.proofs.Words.{View, Work, Watch, Survey, Labels, Written, tag_word_of, number_word_of, MOST_SLOTS, NodeAgrees, Phase, count_in, nodes_of}
use Rattle.fx_lasting.proofs.Words.{owed, slots_of, state_after_all, sum_by, taken_of, word_of}
use mathlib.Core.Option as maybe

abbrev pub Homes : Type 0
Homes = List (maybe.Option (Option Closed))

abbrev pub word_at : List ℕ → ℕ → ℕ
word_at words place = get_or words place 0

-- the two words of a node's label are as they were
abbrev pub LabelSame : Start → List ℕ → List ℕ → ℕ → Type 0
LabelSame k words' words n = (word_at words' (tag_word_of k n) ≡ word_at words (tag_word_of k n))
    × (word_at words' (number_word_of k n) ≡ word_at words (number_word_of k n))

pub labels_same : (k : Start) (words' words : List ℕ) (n : ℕ) (l : Written) → LabelSame k words' words n → Labels k words n l → Labels k words' n l
labels_same k words' words n l same o = rw (same.0, same.1) o

-- the word of a slot
abbrev pub slot_word : List ℕ → ℕ → ℕ
slot_word words s = word_at words (slot_place s)

-- a node in this phase
abbrev pub NodeIn : {k : Start} {s : Shared} → Agrees k s → ℕ → Phase → Type 0
NodeIn {k} {s} r n = NodeAgrees (state_after_all k r.history).at (slots_of k) (λ i. count_in (slot_word s.words i)) r.node_of r.nodes.next_number n
    (word_at s.words (word_of k n)) (sum_by (taken_of n) s.views) (owed r.debt k.passes n) (get_elem? s.homes n)

pub node_in : {k : Start} {s : Shared} (r : Agrees k s) {n : ℕ} {ph : Phase} → n < nodes_of k → r.phase n ≡ ph → NodeIn r n ph
node_in r {n} l is = subst (NodeIn r n) is (r.nodes.each n l)

abbrev pub now : View → Log → Work → Glance → Change → View
now v y d g c = record v { logs = y ∷ []; work = d; glance = g; change = c }

-- a pass that has seen the history, is listed or not, has asked so, has this stock and watches
-- this, after one more step
abbrev pub logged : Log → Bool → Survey → List ℕ → Watch → List Event → Log
logged x l a stock o h = record x { front = h; steps = x.steps + 1; listed = l; asked = a; stock = stock; watch = o }

-- as many meetings as before
pub met_same : (n : ℕ) → n ≤ n
met_same n = omega arith

-- a seat with one pass, which makes the next step
pub record Turn : Type 0 where
  pub st : Shared
  pub v : View
  pub r : Agrees v.start st
  pub id : ℕ
  pub x : Log
  pub here : get_elem? st.views id ≡ some v
  pub one : v.logs ≡ x ∷ []

-- the turn of the seat's pass, as laws of steps give it
abbrev pub turn_of : (m : Sat) (x : Log) → m.0.logs ≡ x ∷ [] → (id : ℕ) (st : Shared) → Agrees m.0.start st → get_elem? st.views id ≡ some m.0 → Turn
turn_of m x one id st r here = record { st = st; v = m.0; r = r; id = id; x = x; here = here; one = one }

-- what a law asks for: the word at the place becomes f of what it was, and the seat learns of it
abbrev pub Made : Turn → List (ℕ × Option Closed) → ℕ → (ℕ → ℕ) → (ℕ → Sat → Type 0) → Type 0
Made turn carried i f told = (w : View) × (a : Act (Option Closed)) × Valid turn.st.homes carried a
    × Agrees turn.v.start (stepped turn.st i (f (word_at turn.st.words i)) turn.id carried w a)
    × told (word_at turn.st.words i) (w, carried_after carried a)

-- a law whose premises are those of the seat's own beginning and of the word's own place
pub by_turn : {k : Start} (slots : ℕ) {id i : ℕ} {m : Sat} {x : Log} (P : Start → Type 0) (place : Start → ℕ) (f : ℕ → ℕ)
    (told : ℕ → ℕ → Sat → Type 0) (has : HasPass k m x) → P k → i ≡ place k
    → ((st : Shared) (r : Agrees m.0.start st) (here : get_elem? st.views id ≡ some m.0) → P m.0.start
    → word_at st.words (place m.0.start) < 18446744073709551616
    → Made (turn_of m x has.1 id st r here) m.1 (place m.0.start) f (told (place m.0.start)))
    → Allows (Agrees k) slots id m i f (told i)
by_turn {k} slots {id} {i} {m} P place f told has its at does =
    subst (λ (k : Start). P k → i ≡ place k → Allows (Agrees k) slots id m i f (told i)) has.0
    (λ its at. subst (λ (i : ℕ). Allows (Agrees m.0.start) slots id m i f (told i)) (sym at) (λ st r deep here fits. does st r here its fits)) its at

-- a range has few slots
pub few_in_range : {k : Start} {st : Shared} → Agrees k st → (range_at_start k).1 ≤ MOST_SLOTS
few_in_range r = let a = r.shape.range in let b = r.shape.slots in omega arith
