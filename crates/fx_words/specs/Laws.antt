-- Laws of slot words, for all numbers.
use Rattle.std.specs.Prelude.{◌≡◌, ℕ, ◌+◌, ◌^◌, ◌<◌, ◌≤◌, Some}
use Rattle.fx_words.specs.Words.{last_node, slot_word_of, node_in, entry_in, takes_in}

-- the number fits 64 bits, and its readers return what it was packed from
pub record ReadsBack (node entry : ℕ) : Type 0 where
  pub word : slot_word_of node entry < 2 ^ 64
  pub node_back : node_in (slot_word_of node entry) ≡ Some node
  pub entry_back : entry_in (slot_word_of node entry) ≡ entry
  pub no_takes : takes_in (slot_word_of node entry) ≡ 0

abbrev pub ReadersUndoMaker : Type 0
ReadersUndoMaker = (node entry : ℕ) → node ≤ last_node → entry < 2 ^ 8 → ReadsBack node entry

abbrev pub MakerUndoesReaders : Type 0
MakerUndoesReaders =
    (word node : ℕ) → node_in word ≡ Some node
    → word ≡ slot_word_of node (entry_in word) + takes_in word

-- one more take, and nothing else changes
pub record HasOneMoreTake (old new : ℕ) : Type 0 where
  pub word : new < 2 ^ 64
  pub same_node : node_in new ≡ node_in old
  pub same_entry : entry_in new ≡ entry_in old
  pub takes : takes_in new ≡ takes_in old + 1

abbrev pub OneMoreTakeChangesTakes : Type 0
OneMoreTakeChangesTakes =
    (word : ℕ) → word < 2 ^ 64 → takes_in word + 1 < 2 ^ 32 → HasOneMoreTake word (word + 1)
