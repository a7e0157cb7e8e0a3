-- Where the words and the open files of a lasting table are.
use Rattle.std.specs.Prelude.{◌≡◌, ◌≢◌, ◌+◌, ◌-◌, ◌*◌, ◌/◌, ◌<◌, ◌≤◌, if◌then◌else◌, ◌∷◌, ◌++◌}
use Rattle.fx_lasting.specs.Words.{ℕ, min, nat_lt, zero, suc, List, [], range_with_len, bit_of}
use Rattle.fx_lasting.specs.Words.{question_place, group_place, RANGE_END}

-- A line is 8 words. The table's memory begins with the third word of a line: the malloc of glibc
-- returns a large block 16 bytes after the beginning of a page, so that a line is a cache line.
-- The question word, each group of slots, each of the first 4,096 slots, each pass and each of the
-- first 4,096 nodes have a line of their own. Each further node has half a line.
-- The list of passes that ever looked a file up has a bit for each of 1,024 passes, 64 in a word.

-- the line of the word at a place
abbrev pub line_at : ℕ → ℕ
line_at place = (place + 2) / 8

-- the word of the list that has the bit of a pass, from 1
abbrev pub list_place : ℕ → ℕ
list_place pass = 6 + (pass - 1) / 64

-- the number of words that the first `n` slots take: each of the first 4,096 slots has a line of
-- its own, and the words of the others are side by side
abbrev pub slot_words : ℕ → ℕ
slot_words n = n + 7 * min n 4096

-- the number of lines that these words are in: no other word is in the last one
abbrev pub slot_lines : ℕ → ℕ
slot_lines n = (slot_words n + 7) / 8

-- the number of words that the first `n` nodes take: each of the first 4,096 nodes has a line of
-- its own, and each of the others has half a line
abbrev pub node_words : ℕ → ℕ
node_words n = 4 * n + 4 * min n 4096

-- the word of a slot
abbrev pub slot_place : ℕ → ℕ
slot_place slot = RANGE_END + slot_words slot

-- the hold word of a pass, from 1
abbrev pub hold_place : ℕ → ℕ → ℕ
hold_place size pass = RANGE_END - 8 + 8 * slot_lines size + 8 * pass

-- the word of a node, the first one of the node's words. The nodes' words follow all others
abbrev pub node_place : ℕ → ℕ → ℕ → ℕ
node_place size passes node = RANGE_END + 8 * slot_lines size + 8 * passes + node_words node

-- the next two words of the node, its label: the tag of its file, and the number
abbrev pub tag_place : ℕ → ℕ → ℕ → ℕ
tag_place size passes node = node_place size passes node + 1

abbrev pub number_place : ℕ → ℕ → ℕ → ℕ
number_place size passes node = node_place size passes node + 2

-- the number of words of a table with `nodes` nodes
abbrev pub words_for : ℕ → ℕ → ℕ → ℕ
words_for size passes nodes = RANGE_END + 8 * slot_lines size + 8 * passes + node_words nodes

-- the first node of a pass's first stock: the nodes that the slots name first come before all
-- stocks
abbrev pub stock_start : ℕ → ℕ → ℕ → ℕ
stock_start size passes pass = size + (pass - 1) * passes

-- the number of nodes of a pass's stock: as many as the table has passes, if it installs files
abbrev pub stock_for : (passes installing pass : ℕ) → ℕ
stock_for passes installing pass = if nat_lt installing pass then 0 else passes

-- the nodes of its first stock
abbrev pub stock_of : (size passes installing pass : ℕ) → List ℕ
stock_of size passes installing pass =
    range_with_len (stock_start size passes pass) (stock_for passes installing pass)

-- the first stocks of the `n` passes from `pass` on, the last one's first
abbrev pub stocks_back : (size passes installing pass n : ℕ) → List (List ℕ)
stocks_back size passes installing pass zero = []
stocks_back size passes installing pass (suc n) =
    stocks_back size passes installing (pass + 1) n ++ stock_of size passes installing pass ∷ []

-- the number of nodes of a table in which `installing` passes install: one for each slot, and for
-- each of these passes as many as the table has passes
abbrev pub nodes_for : ℕ → ℕ → ℕ → ℕ
nodes_for size passes installing = size + installing * passes

-- the places of words are inside the table's memory
pub record PlacesAreInside (size passes nodes : ℕ) : Type 0 where
  pub question : question_place < words_for size passes nodes
  pub group : (group : ℕ) → group < 64 → group_place group < words_for size passes nodes
  pub list : (pass : ℕ) → pass ≤ 1024 → list_place pass < words_for size passes nodes
  pub slot : (slot : ℕ) → slot < size → slot_place slot < words_for size passes nodes
  pub hold : (pass : ℕ) → pass ≤ passes → hold_place size pass < words_for size passes nodes
  pub node : (node : ℕ) → node < nodes
      → node_place size passes node < words_for size passes nodes
  pub tag : (node : ℕ) → node < nodes
      → tag_place size passes node < words_for size passes nodes
  pub number : (node : ℕ) → node < nodes
      → number_place size passes node < words_for size passes nodes

-- different words have different places
pub record PlacesAreApart (size passes : ℕ) : Type 0 where
  pub slots : (slot other : ℕ) → slot_place slot ≡ slot_place other → slot ≡ other
  pub holds : (pass other : ℕ) → hold_place size pass ≡ hold_place size other → pass ≡ other
  pub nodes : (node other : ℕ)
      → node_place size passes node ≡ node_place size passes other → node ≡ other
  -- the bits of two passes in one word are apart
  pub bits : (pass other : ℕ) → 0 < pass → 0 < other → list_place pass ≡ list_place other
      → bit_of pass ≡ bit_of other → pass ≡ other
  pub groups : (group other : ℕ) → group_place group ≡ group_place other → group ≡ other
  pub list_and_question : (pass : ℕ) → list_place pass ≢ question_place
  pub group_and_question : (group : ℕ) → group_place group ≢ question_place
  pub slot_and_question : (slot : ℕ) → slot_place slot ≢ question_place
  pub hold_and_question : (pass : ℕ) → 0 < pass → hold_place size pass ≢ question_place
  pub node_and_question : (node : ℕ) → node_place size passes node ≢ question_place
  pub group_and_list : (group pass : ℕ) → pass ≤ 1024 → group_place group ≢ list_place pass
  pub slot_and_group : (slot group : ℕ) → group < 64 → slot_place slot ≢ group_place group
  pub hold_and_group : (pass group : ℕ) → 0 < pass → group < 64
      → hold_place size pass ≢ group_place group
  pub node_and_group : (node group : ℕ) → group < 64
      → node_place size passes node ≢ group_place group
  pub slot_and_list : (slot pass : ℕ) → pass ≤ 1024 → slot_place slot ≢ list_place pass
  pub hold_and_list : (pass other : ℕ) → 0 < pass → other ≤ 1024
      → hold_place size pass ≢ list_place other
  pub node_and_list : (node pass : ℕ) → pass ≤ 1024
      → node_place size passes node ≢ list_place pass
  pub hold_and_slot : (pass slot : ℕ) → 0 < pass → slot < size
      → hold_place size pass ≢ slot_place slot
  pub node_and_slot : (node slot : ℕ) → slot < size
      → node_place size passes node ≢ slot_place slot
  pub node_and_hold : (node pass : ℕ) → pass ≤ passes
      → node_place size passes node ≢ hold_place size pass

-- the place isn't that of a word of the node's label
abbrev pub IsNoLabel : (size passes node place : ℕ) → Type 0
IsNoLabel size passes node place = (place ≢ tag_place size passes node)
    × (place ≢ number_place size passes node)

-- the words of labels have different places, and no other word has one of these
pub record LabelsAreApart (size passes : ℕ) : Type 0 where
  pub tags : (node other : ℕ) → tag_place size passes node ≡ tag_place size passes other
      → node ≡ other
  pub numbers : (node other : ℕ) → number_place size passes node ≡ number_place size passes other
      → node ≡ other
  pub tag_and_number : (node other : ℕ) → tag_place size passes node
      ≢ number_place size passes other
  pub label_and_node : (node other : ℕ) → IsNoLabel size passes node
      (node_place size passes other)
  pub label_and_hold : (node pass : ℕ) → pass ≤ passes → IsNoLabel size passes node
      (hold_place size pass)
  pub label_and_slot : (node slot : ℕ) → slot < size → IsNoLabel size passes node
      (slot_place slot)
  pub label_and_group : (node group : ℕ) → group < 64 → IsNoLabel size passes node
      (group_place group)
  pub label_and_list : (node pass : ℕ) → pass ≤ 1024 → IsNoLabel size passes node
      (list_place pass)
  pub label_and_question : (node : ℕ) → IsNoLabel size passes node question_place

-- the words of a node are in one line, and no word of another kind is there
pub record NodesAreInOneLine (size passes : ℕ) : Type 0 where
  pub one : (node : ℕ) → line_at (number_place size passes node)
      ≡ line_at (node_place size passes node)
  -- the line of one of the first 4,096 nodes has no word of another node
  pub own : (node other : ℕ) → node < 4096 → line_at (node_place size passes node)
      ≡ line_at (node_place size passes other) → node ≡ other
  pub node_and_slot : (node slot : ℕ) → slot < size
      → line_at (slot_place slot) < line_at (node_place size passes node)
  pub node_and_hold : (node pass : ℕ) → pass ≤ passes
      → line_at (hold_place size pass) < line_at (node_place size passes node)
