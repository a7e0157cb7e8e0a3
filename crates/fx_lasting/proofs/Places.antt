-- Places are inside, and apart; and what a write to one of them leaves as it was.
use Rattle.fx_lasting.proofs.Words.{◌≡◌, ◌≢◌, ℕ, ◌<◌, ◌≤◌, List, set, sym, arith, get_or-set_other, get_or-set_same, list_place, slot_place, word_of}
use Rattle.fx_lasting.proofs.Words.{hold_word_of, slots_of, nodes_of, slot_of, pass_at, Start, PlacesAreInside, PlacesAreApart, LabelsAreApart}
use Rattle.fx_lasting.proofs.Words.{NodesAreInOneLine, IsNoLabel, tag_word_of, number_word_of, length, length-set, ap, ◌∙◌, CountAlike}
use Rattle.fx_lasting.proofs.Keeping.{Turn, word_at, slot_word, LabelSame}

pub places_inside : (size passes nodes : ℕ) → PlacesAreInside size passes nodes
places_inside size passes nodes = grind arith

pub places_apart : (size passes : ℕ) → PlacesAreApart size passes
places_apart size passes = grind arith

pub labels_apart : (size passes : ℕ) → LabelsAreApart size passes
labels_apart size passes = grind arith

pub nodes_in_line : (size passes : ℕ) → NodesAreInOneLine size passes
nodes_in_line size passes = grind arith

pub slot_back : (s : ℕ) → slot_of (slot_place s) ≡ s
slot_back s = omega arith

-- the slot that a place of a slot's word says
pub slot_said : {slot place : ℕ} → place ≡ slot_place slot → slot_of place ≡ slot
slot_said {slot} is = ap slot_of is ∙ slot_back slot

pub pass_back : (k : Start) (p : ℕ) → pass_at k (hold_word_of k p) ≡ p
pass_back k p = omega arith

-- a write that is of no label leaves all labels as they were
pub label_same : (k : Start) (words : List ℕ) (place new : ℕ) → ((n : ℕ) → IsNoLabel (slots_of k) k.passes n place) → (n : ℕ)
    → LabelSame k (set words place new) words n
label_same k words place new apart n = (
  get_or-set_other words place (tag_word_of k n) new 0 (λ same. (apart n).0 (sym same)),
  get_or-set_other words place (number_word_of k n) new 0 (λ same. (apart n).1 (sym same)),
)

-- the words but for those of the node and of passes that hold files are as they were
pub record LeavesElse (turn : Turn) (n : ℕ) (words' : List ℕ) : Type 0 where
  pub as_long : length words' ≡ length turn.st.words
  pub slots : (s : ℕ) → s < slots_of turn.v.start → slot_word words' s ≡ slot_word turn.st.words s
  pub alike : CountAlike words' turn.st.words
  pub lists : (p : ℕ) → p ≤ 1024 → word_at words' (list_place p) ≡ word_at turn.st.words (list_place p)
  pub nodes : (m : ℕ) → m ≢ n → word_at words' (word_of turn.v.start m) ≡ word_at turn.st.words (word_of turn.v.start m)
  pub labels : (m : ℕ) → m ≢ n → LabelSame turn.v.start words' turn.st.words m

-- the word of a node is written
module _ (turn : Turn) (q : ℕ) (its : q < nodes_of turn.v.start) (new : ℕ) where
  open turn use {st, v, r}

  abbrev pub node_words : List ℕ
  node_words = set st.words (word_of v.start q) new

  pub node_here : word_at node_words (word_of v.start q) ≡ new
  node_here = get_or-set_same st.words (word_of v.start q) new 0 (let a = r.shape.words in omega arith)

  node_apart : {place : ℕ} → place ≢ word_of v.start q → word_at node_words place ≡ word_at st.words place
  node_apart {place} other = get_or-set_other st.words (word_of v.start q) place new 0 other

  pub node_slot : (s : ℕ) → s < slots_of v.start → slot_word node_words s ≡ slot_word st.words s
  node_slot s l = node_apart (λ same. omega arith)

  pub node_hold : (p : ℕ) → p ≤ v.start.passes → word_at node_words (hold_word_of v.start p) ≡ word_at st.words (hold_word_of v.start p)
  node_hold p l = node_apart (λ same. omega arith)

  pub node_label : (n : ℕ) → LabelSame v.start node_words st.words n
  node_label = label_same v.start st.words (word_of v.start q) new (λ n. (λ same. omega arith, λ same. omega arith))

  pub node_leaves : LeavesElse turn q node_words
  node_leaves = record {
    as_long = length-set st.words (word_of v.start q) new;
    slots = node_slot;
    alike = (node_apart (λ same. omega arith), λ g l. node_apart (λ same. omega arith));
    lists = λ p few. node_apart (λ same. omega arith);
    nodes = λ n other. node_apart (λ same. other (omega arith));
    labels = λ m other. node_label m;
  }

-- the hold word of a pass is written
module _ (turn : Turn) (p : ℕ) (low : 0 < p) (high : p ≤ turn.v.start.passes) (new : ℕ) where
  open turn use {st, v, r}

  abbrev pub hold_words : List ℕ
  hold_words = set st.words (hold_word_of v.start p) new

  pub hold_here : word_at hold_words (hold_word_of v.start p) ≡ new
  hold_here = get_or-set_same st.words (hold_word_of v.start p) new 0 (let a = r.shape.words in omega arith)

  hold_apart : {place : ℕ} → place ≢ hold_word_of v.start p → word_at hold_words place ≡ word_at st.words place
  hold_apart {place} other = get_or-set_other st.words (hold_word_of v.start p) place new 0 other

  pub hold_node : (n : ℕ) → word_at hold_words (word_of v.start n) ≡ word_at st.words (word_of v.start n)
  hold_node n = hold_apart (λ same. omega arith)

  pub hold_slot : (s : ℕ) → s < slots_of v.start → slot_word hold_words s ≡ slot_word st.words s
  hold_slot s l = hold_apart (λ same. omega arith)

  pub hold_else : (q : ℕ) → q ≢ p → word_at hold_words (hold_word_of v.start q) ≡ word_at st.words (hold_word_of v.start q)
  hold_else q other = hold_apart (λ same. other (omega arith))

  pub hold_list : (p : ℕ) → p ≤ 1024 → word_at hold_words (list_place p) ≡ word_at st.words (list_place p)
  hold_list p few = hold_apart (λ same. omega arith)

  pub hold_label : (n : ℕ) → LabelSame v.start hold_words st.words n
  hold_label = label_same v.start st.words (hold_word_of v.start p) new (λ n. (λ same. omega arith, λ same. omega arith))

  pub hold_alike : CountAlike hold_words st.words
  hold_alike = (hold_apart (λ same. omega arith), λ g l. hold_apart (λ same. omega arith))

  pub hold_leaves : (n : ℕ) → LeavesElse turn n hold_words
  hold_leaves n = record {
    as_long = length-set st.words (hold_word_of v.start p) new;
    slots = hold_slot;
    alike = hold_alike;
    lists = hold_list;
    nodes = λ m other. hold_node m;
    labels = λ m other. hold_label m;
  }

-- the word of a slot is written
module _ (turn : Turn) (s : ℕ) (inside : s < slots_of turn.v.start) (new : ℕ) where
  open turn use {st, v, r}

  abbrev pub slot_words : List ℕ
  slot_words = set st.words (slot_place s) new

  pub slot_here : slot_word slot_words s ≡ new
  slot_here = get_or-set_same st.words (slot_place s) new 0 (let a = r.shape.words in omega arith)

  slot_apart : {place : ℕ} → place ≢ slot_place s → word_at slot_words place ≡ word_at st.words place
  slot_apart {place} other = get_or-set_other st.words (slot_place s) place new 0 other

  pub slot_node : (n : ℕ) → word_at slot_words (word_of v.start n) ≡ word_at st.words (word_of v.start n)
  slot_node n = slot_apart (λ same. omega arith)

  pub slot_else : (i : ℕ) → i ≢ s → slot_word slot_words i ≡ slot_word st.words i
  slot_else i other = slot_apart (λ same. other (omega arith))

  -- what holds of the slot's new word, and of each other slot's word, holds of each slot's word
  pub slot_by : (P : ℕ → ℕ → Type 0) → P s new → ((i : ℕ) → i ≢ s → P i (slot_word st.words i)) → (i : ℕ) → P i (slot_word slot_words i)
  slot_by P its else i = grind (arith, slot_here, slot_else)

  pub slot_hold : (p : ℕ) → 0 < p → word_at slot_words (hold_word_of v.start p) ≡ word_at st.words (hold_word_of v.start p)
  slot_hold p low = slot_apart (λ same. omega arith)

  pub slot_list : (p : ℕ) → p ≤ 1024 → word_at slot_words (list_place p) ≡ word_at st.words (list_place p)
  slot_list p few = slot_apart (λ same. omega arith)

  pub slot_label : (n : ℕ) → LabelSame v.start slot_words st.words n
  slot_label = label_same v.start st.words (slot_place s) new (λ n. (λ same. omega arith, λ same. omega arith))

  pub slot_alike : CountAlike slot_words st.words
  slot_alike = (slot_apart (λ same. omega arith), λ g l. slot_apart (λ same. omega arith))

-- the word of the list that has the pass's bit is written
module _ (turn : Turn) (p : ℕ) (few : p ≤ 1024) (new : ℕ) where
  open turn use {st, v, r}

  abbrev pub list_words : List ℕ
  list_words = set st.words (list_place p) new

  pub list_here : word_at list_words (list_place p) ≡ new
  list_here = get_or-set_same st.words (list_place p) new 0 (let a = r.shape.words in omega arith)

  pub list_apart : {place : ℕ} → place ≢ list_place p → word_at list_words place ≡ word_at st.words place
  list_apart {place} other = get_or-set_other st.words (list_place p) place new 0 other

  pub list_node : (n : ℕ) → word_at list_words (word_of v.start n) ≡ word_at st.words (word_of v.start n)
  list_node n = list_apart (λ same. omega arith)

  pub list_hold : (q : ℕ) → 0 < q → word_at list_words (hold_word_of v.start q) ≡ word_at st.words (hold_word_of v.start q)
  list_hold q low = list_apart (λ same. omega arith)

  pub list_slot : (s : ℕ) → s < slots_of v.start → slot_word list_words s ≡ slot_word st.words s
  list_slot s l = list_apart (λ same. omega arith)

  pub list_label : (n : ℕ) → LabelSame v.start list_words st.words n
  list_label = label_same v.start st.words (list_place p) new (λ n. (λ same. omega arith, λ same. omega arith))

  pub list_alike : CountAlike list_words st.words
  list_alike = (list_apart (λ same. omega arith), λ g l. list_apart (λ same. omega arith))
