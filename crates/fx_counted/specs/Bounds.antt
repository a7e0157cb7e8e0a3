-- Bounds of the lock-free table's words: each number stays within its bits.
use Rattle.std.specs.Prelude.{◌≡◌, ◌+◌, ◌/◌, ◌%◌, ◌^◌, ◌<◌, ◌≤◌}
use Rattle.fx_counted.specs.Words.{ℕ, Some, slice_index, sum_by, File, node_in, takes_in}
use Rattle.fx_counted.specs.Words.{one_change, Start, View, Between, Retiring}
use Rattle.fx_counted.specs.Agrees.{Agrees}
use Rattle.fx_counted.specs.Layout.{control_place, draw_place, slot_place, node_place}
use Rattle.fx_counted.specs.Passes.{Shared, slots_of, looks_of}
use mathlib.Core.Option.{some}
use lib.ListN.{get_elem?}

-- the word of a slot
abbrev pub slot_word_in : Shared → ℕ → ℕ
slot_word_in s slot = slice_index s.words (slot_place slot)

-- the word of a number
abbrev pub node_word_in : Start → Shared → ℕ → ℕ
node_word_in k s number = slice_index s.words (node_place (slots_of k) number)

-- the control word
abbrev pub control_word_in : Shared → ℕ
control_word_in s = slice_index s.words control_place

-- the draw word
abbrev pub draw_word_in : Shared → ℕ
draw_word_in s = slice_index s.words draw_place

-- the bounds of a table's words
pub record AreBounded (k : Start) (s : Shared) : Type 0 where
  -- 16 passes began with 2^20 look-ups each: the takes of a slot, of 32 bits, plus all look-ups
  -- that are left
  pub takes : (slot : ℕ) → slot < slots_of k
      → takes_in (slot_word_in s slot) + sum_by looks_of s.views ≤ 2 ^ 24
  -- releases alone don't take a file's node word to 0 while a slot names it
  pub named : (slot number : ℕ) → slot < slots_of k
      → node_in (slot_word_in s slot) ≡ Some number → 2 ^ 32 ≤ node_word_in k s number + 2 ^ 24
  -- nor after its removal, until it is retired
  pub leaving : (seat takes : ℕ) (v : View) (f : File)
      → get_elem? s.views seat ≡ some v → v.work ≡ Between (Retiring f takes)
      → 2 ^ 32 ≤ node_word_in k s f.number + 2 ^ 24
  -- each of 16 passes gets `None` once
  pub draws : draw_word_in s ≤ k.chains + 16
  -- at most 16 passes are in a change, and each has at most one of at most 256 full slots to report
  pub changes : control_word_in s / one_change ≤ 16
  pub least : 65520 ≤ control_word_in s % one_change
  pub most : control_word_in s % one_change ≤ 65808

-- the bounds hold between any two steps
abbrev pub WordsAreBounded : Type 0
WordsAreBounded = (k : Start) (s : Shared) → Agrees k s → AreBounded k s
