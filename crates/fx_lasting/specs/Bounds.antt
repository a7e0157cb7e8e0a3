-- The bounds of a lasting table's words.
use Rattle.std.specs.Prelude.{◌≡◌, ◌+◌, ◌%◌, ◌^◌, ◌<◌, ◌≤◌}
use Rattle.fx_lasting.specs.Words.{ℕ, slice_index, File, group_place, groups_in, Round, Start, View}
use Rattle.fx_lasting.specs.Agrees.{Agrees}
use Rattle.fx_lasting.specs.life.Layout.{slot_place}
use Rattle.fx_lasting.specs.Fields.{full_name_in, count_in, heat_in, cold_takes}
use Rattle.fx_lasting.specs.Passes.{Shared, slots_of, range_at_start, word_of}
use Rattle.fx_lasting.specs.declared.view.Work.TheVariants.{Retiring}
use mathlib.Core.Option.{some}
use lib.ListN.{get_elem?}

-- the word of a slot
abbrev pub slot_word_in : Shared → ℕ → ℕ
slot_word_in s slot = slice_index s.words (slot_place slot)

-- the word of a node
abbrev pub node_word_in : Start → Shared → ℕ → ℕ
node_word_in k s node = slice_index s.words (word_of k node)

-- the word of a group
abbrev pub group_word_in : Shared → ℕ → ℕ
group_word_in s group = slice_index s.words (group_place group)

-- the bounds of a table's words
pub record AreBounded (k : Start) (s : Shared) : Type 0 where
  -- a slot has at most the takes of a cold one, and one more for each pass: 20 bits have room
  pub takes : (slot : ℕ) → slot < slots_of k
      → count_in (slot_word_in s slot) ≤ cold_takes k.passes + k.passes
  pub room : cold_takes k.passes + k.passes < 2 ^ 20
  -- each pass heats a slot at most once until its word is swapped: 11 bits have room
  pub heat : (slot : ℕ) → slot < slots_of k → heat_in (slot_word_in s slot) ≤ k.passes
  pub heat_room : k.passes < 2 ^ 11
  -- no drop finds 2 while the file of the node is at a slot
  pub named : (slot node : ℕ) → slot < slots_of k → full_name_in (slot_word_in s slot) ≡ node + 1
      → 2 < node_word_in k s node
  -- nor after its file's removal, until the file is retired
  pub leaving : (seat node takes charges : ℕ) (round : Round) (v : View) (f : File)
      → get_elem? s.views seat ≡ some v → v.work ≡ Retiring f node takes round charges
      → 2 < node_word_in k s node
  -- of at most 16,384 full slots, a group's word counts at most one too few for each pass
  pub groups : (group : ℕ) → group < groups_in (range_at_start k).1
      → (group_word_in s group + 1024) % 2 ^ 64 ≤ 1024 + 16384

-- the bounds hold between any two steps
abbrev pub WordsAreBounded : Type 0
WordsAreBounded = (k : Start) (s : Shared) → Agrees k s → AreBounded k s
