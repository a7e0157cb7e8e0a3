-- The first words and places of a lock-free table.
use Rattle.std.specs.Prelude.{◌≡◌, ◌+◌, ◌<◌, ◌≤◌}
use Rattle.fx_counted.specs.Words.{ℕ, List, [], length, slice_index, Option, Some, None, opening}
use Rattle.fx_counted.specs.Words.{Identity, Contents, state_of, IsSettled, File, MOST_SLOTS}
use Rattle.fx_counted.specs.Words.{CHAIN_NUMBERS, FIRST_CHAIN_NUMBER, MAX_CHAINS, MAX_PASSES}
use Rattle.fx_counted.specs.Words.{range_of, born, slot_word_of, control_word_of, full_in}
use Rattle.fx_counted.specs.Words.{first_view, Start}
use Rattle.fx_counted.specs.Agrees.{Agrees}
use Rattle.fx_counted.specs.Cuts.{seats}
use Rattle.fx_counted.specs.Layout.{control_place, draw_place, slot_place, node_place, words_for}
use Rattle.fx_counted.specs.Layout.{home_place, homes_for}
use Rattle.fx_counted.specs.Passes.{opening_of, slots_of, chain_numbers, state_after_all}
use mathlib.Core.Option.{some}
use lib.ListN.{get_elem?}

-- the table may be opened for this number of chains, each with `each` numbers, and of passes
pub record MayOpen (plain : Contents) (chains each passes : ℕ) : Type 0 where
  pub settled : IsSettled (state_of plain)
  pub few_chains : chains ≤ MAX_CHAINS
  pub few_numbers : each ≤ CHAIN_NUMBERS
  pub some_passes : 1 ≤ passes
  pub few_passes : passes ≤ MAX_PASSES

-- the word of a slot
abbrev pub word_for : Option File → ℕ
word_for None = 0
word_for (Some f) = slot_word_of f.number f.identity.entry

-- the word of the slot's number
abbrev pub node_for : Option File → ℕ
node_for None = 0
node_for (Some f) = born

-- the content of the number's place
abbrev pub home_for : Option File → Option Identity
home_for None = None
home_for (Some f) = Some f.identity

-- the file at a slot before any event
abbrev pub first_file : Start → ℕ → Option File
first_file k slot = (state_after_all k []).at slot

-- The first words and places of a table: each file at a slot has no takes and no releases, no pass
-- is in a change, and no chain is drawn
pub record OpensWith (k : Start) (words : List ℕ) (homes : List (Option Identity)) : Type 0 where
  pub slots : slots_of k ≤ MOST_SLOTS
  pub range : (range_of (opening_of k)).0 + (range_of (opening_of k)).1 ≤ slots_of k
  pub chains : k.chains ≤ MAX_CHAINS
  pub passes : k.passes ≤ MAX_PASSES
  pub numbers : k.numbers ≤ CHAIN_NUMBERS
  pub entries : (slot : ℕ) (f : File) → first_file k slot ≡ Some f → f.identity.entry < 256
  pub words_length : length words ≡ words_for (slots_of k) (chain_numbers k)
  pub homes_length : length homes ≡ homes_for (slots_of k) (chain_numbers k)
  pub control : let range = range_of (opening_of k) in
      slice_index words control_place ≡ control_word_of (full_in (first_file k) range.0 range.1)
  pub draw : slice_index words draw_place ≡ 0
  pub slot_words : (slot : ℕ) → slot < slots_of k
      → slice_index words (slot_place slot) ≡ word_for (first_file k slot)
  pub node_words : (slot : ℕ) → slot < slots_of k
      → slice_index words (node_place (slots_of k) slot) ≡ node_for (first_file k slot)
  pub files : (slot : ℕ) → slot < slots_of k
      → get_elem? homes (home_place (slots_of k) slot) ≡ some (home_for (first_file k slot))
  pub fresh_words : (n : ℕ) → FIRST_CHAIN_NUMBER ≤ n → n < FIRST_CHAIN_NUMBER + chain_numbers k
      → slice_index words (node_place (slots_of k) n) ≡ 0
  pub fresh_places : (n : ℕ) → FIRST_CHAIN_NUMBER ≤ n → n < FIRST_CHAIN_NUMBER + chain_numbers k
      → get_elem? homes (home_place (slots_of k) n) ≡ some None

-- a table with these words and places keeps the rule, with one seat that has all passes
abbrev pub OpeningKeeps : Type 0
OpeningKeeps = (k : Start) (words : List ℕ) (homes : List (Option Identity))
    → OpensWith k words homes → Agrees k (opening words homes (first_view seats k))
