-- The first words of a shared table, from the table of one thread.
use Rattle.std.specs.Prelude.{◌≡◌, ◌+◌, ◌*◌, ◌<◌, ◌≤◌, ℕ, List, Some, length, slice_index}
use Rattle.fx_counted.specs.Words.{File, full_in, first_at, control_word_of}
use Rattle.fx_plain.specs.State.{State}
use Rattle.fx_counted.specs.Layout.{control_place, draw_place, slot_place, node_place, words_for}
use Rattle.fx_counted.specs.Opens.{word_for, node_for}

-- the first words, if the chains have `numbers` numbers together: those of the slots and of their
-- numbers, and 0 elsewhere
pub record AreFirstWords (st : State) (numbers : ℕ) (words : List ℕ) : Type 0 where
  pub count : length words ≡ words_for st.size numbers
  pub entries : (slot : ℕ) (f : File) → slot < st.size → first_at st slot ≡ Some f
      → f.identity.entry < 256
  pub control : slice_index words control_place
      ≡ control_word_of (full_in (first_at st) st.range.0 st.range.1)
  pub draw : slice_index words draw_place ≡ 0
  pub slots : (slot : ℕ) → slot < st.size
      → slice_index words (slot_place slot) ≡ word_for (first_at st slot)
  pub nodes : (slot : ℕ) → slot < st.size
      → slice_index words (node_place st.size slot) ≡ node_for (first_at st slot)
  pub fresh : (place : ℕ) → 16 + 8 * st.size ≤ place → slice_index words place ≡ 0
