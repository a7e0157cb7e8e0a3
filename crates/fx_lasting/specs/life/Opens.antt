-- The words and places with which a lasting table begins: its slots are empty.
use Rattle.std.specs.Prelude.{◌≡◌, ◌≢◌, ◌+◌, ◌<◌, ◌≤◌, None, ℕ, List, length, slice_index, Option}
use Rattle.fx_lasting.specs.Words.{Identity, MOST_SLOTS, Start, View}
use Rattle.atomic_table.specs.Table.{opening}
use Rattle.fx_lasting.specs.life.Layout.{slot_place, words_for}
use Rattle.fx_lasting.specs.Fields.{empty_word_of}
use Rattle.fx_lasting.specs.Passes.{Shared, slots_of, range_at_start, nodes_of}
use mathlib.Core.Option.{some}
use lib.ListN.{get_elem?}

-- the words of the first slots are those of empty slots, and all others are as they were
pub record AreNamed (done : ℕ) (old new : List ℕ) : Type 0 where
  pub count : length new ≡ length old
  pub named : (slot : ℕ) → slot < done → slice_index new (slot_place slot) ≡ empty_word_of slot
  pub others : (place : ℕ) → ((slot : ℕ) → slot < done → place ≢ slot_place slot)
      → slice_index new place ≡ slice_index old place

-- words and places of a table that begins so: each slot's word names the slot's node, every other
-- word is 0, and no place has a file
pub record OpensWith (k : Start) (words : List ℕ) (homes : List (Option Identity)) : Type 0 where
  pub slots : slots_of k ≤ MOST_SLOTS
  pub range : (range_at_start k).0 + (range_at_start k).1 ≤ slots_of k
  pub passes : k.passes ≤ 1024
  pub nodes : nodes_of k ≤ 16777214
  pub words_length : length words ≡ words_for (slots_of k) k.passes (nodes_of k)
  pub homes_length : length homes ≡ nodes_of k
  pub named : (slot : ℕ) → slot < slots_of k
      → slice_index words (slot_place slot) ≡ empty_word_of slot
  pub others : (place : ℕ) → ((slot : ℕ) → slot < slots_of k → place ≢ slot_place slot)
      → slice_index words place ≡ 0
  pub vacant : (n : ℕ) → n < nodes_of k → get_elem? homes n ≡ some None

-- a table that begins so keeps the rule, with one seat that has all passes
abbrev pub OpeningKeeps : (Start → Shared → Type 0) → (Start → View) → Type 0
OpeningKeeps holds first = (k : Start) (words : List ℕ) (homes : List (Option Identity))
    → OpensWith k words homes → holds k (opening words homes (first k))
