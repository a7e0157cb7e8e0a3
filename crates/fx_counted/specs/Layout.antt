-- The places of the lock-free table's words and open files.
use Rattle.std.specs.Prelude.{◌≡◌, ◌≢◌, ◌+◌, ◌-◌, ◌*◌, ◌/◌, ◌<◌, ◌≤◌, ◌⊎◌, if◌then◌else◌}
use Rattle.fx_counted.specs.Words.{ℕ, nat_lt, FIRST_CHAIN_NUMBER}

-- The control word and the draw word have a cache line of their own, and so has each slot. A slot's
-- word is next to the node word of the number that the slot has at first.
-- The control word
abbrev pub control_place : ℕ
control_place = 0

-- the draw word
abbrev pub draw_place : ℕ
draw_place = 8

-- the word of a slot
abbrev pub slot_place : ℕ → ℕ
slot_place slot = 16 + 8 * slot

-- the slot whose word is at the place
abbrev pub slot_of : ℕ → ℕ
slot_of place = (place - 16) / 8

-- the node word of a number; those of the chains' numbers follow the slots, side by side
abbrev pub node_place : (size number : ℕ) → ℕ
node_place size number =
    if nat_lt number size then 17 + 8 * number else 16 + 8 * size + (number - FIRST_CHAIN_NUMBER)

-- the number of words, if the chains have `numbers` numbers together
abbrev pub words_for : (size numbers : ℕ) → ℕ
words_for size numbers = 16 + 8 * size + numbers

-- the place of a number's open file
abbrev pub home_place : (size number : ℕ) → ℕ
home_place size number = if nat_lt number size then number else size + (number - FIRST_CHAIN_NUMBER)

-- the number of places for open files
abbrev pub homes_for : (size numbers : ℕ) → ℕ
homes_for size numbers = size + numbers

-- The number has a word and a place: it is that of a slot or of a chain
abbrev pub HasNode : (size numbers number : ℕ) → Type 0
HasNode size numbers number = (number < size)
    ⊎ ((FIRST_CHAIN_NUMBER ≤ number) × (number < FIRST_CHAIN_NUMBER + numbers))

-- the places of words and files are inside the table's memory
pub record PlacesAreInside (size numbers : ℕ) : Type 0 where
  pub control : control_place < words_for size numbers
  pub draw : draw_place < words_for size numbers
  pub slot : (slot : ℕ) → slot < size → slot_place slot < words_for size numbers
  pub node : (number : ℕ) → HasNode size numbers number
      → node_place size number < words_for size numbers
  pub home : (number : ℕ) → HasNode size numbers number
      → home_place size number < homes_for size numbers

-- different words have different places, and the files of different numbers do too
pub record PlacesAreApart (size numbers : ℕ) : Type 0 where
  pub slots : (slot other : ℕ) → slot_place slot ≡ slot_place other → slot ≡ other
  pub nodes : (number other : ℕ)
      → HasNode size numbers number → HasNode size numbers other → number ≢ other
      → node_place size number ≢ node_place size other
  pub homes : (number other : ℕ)
      → HasNode size numbers number → HasNode size numbers other → number ≢ other
      → home_place size number ≢ home_place size other
  pub node_and_slot : (number slot : ℕ) → slot < size → HasNode size numbers number
      → node_place size number ≢ slot_place slot
  pub node_and_control : (number : ℕ) → HasNode size numbers number
      → node_place size number ≢ control_place
  pub node_and_draw : (number : ℕ) → HasNode size numbers number
      → node_place size number ≢ draw_place
  pub slot_and_control : (slot : ℕ) → slot_place slot ≢ control_place
  pub slot_and_draw : (slot : ℕ) → slot_place slot ≢ draw_place
  pub control_and_draw : control_place ≢ draw_place
  pub slot_back : (slot : ℕ) → slot_of (slot_place slot) ≡ slot
