-- The parts of words, as numbers.
use Rattle.std.specs.Prelude.{◌≡◌, ◌+◌, ◌-◌, ◌*◌, ◌/◌, ◌%◌, ◌^◌, ◌<◌, ◌≤◌, ◌==◌, if◌then◌else◌}
use Rattle.fx_lasting.specs.Words.{ℕ, Option, bit_at, name_in, named, slot_word_of, bit_of}

-- the name and the entry of a slot's word are those of `fx_words`. The 32 bits below them count the
-- passes that heated the slot, 11 bits, say whether the slot is full, one bit, and count its takes,
-- 20 bits. An empty slot's word keeps the name of a node
abbrev pub full_unit : ℕ
full_unit = 2 ^ 20

-- the name of the node of the file at the slot, or 0 if the slot is empty
abbrev pub full_name_in : ℕ → ℕ
full_name_in word = if word / 2 ^ 20 % 2 == 1 then name_in word else 0

-- the node of the file at the slot
abbrev pub file_node_in : ℕ → Option ℕ
file_node_in word = named (full_name_in word)

-- the word of a slot with a file on this node, and of an empty slot that names this node
abbrev pub file_word_of : (node entry : ℕ) → ℕ
file_word_of node entry = slot_word_of node entry + full_unit

abbrev pub empty_word_of : ℕ → ℕ
empty_word_of node = (node + 1) * 2 ^ 40

-- the bits of the name
abbrev pub name_mask : ℕ
name_mask = 2 ^ 64 - 2 ^ 40

-- the word of a slot once its file was removed: the name alone
abbrev pub without_file : ℕ → ℕ
without_file word = word / 2 ^ 40 * 2 ^ 40

abbrev pub heat_unit : ℕ
heat_unit = 2 ^ 21

abbrev pub count_in : ℕ → ℕ
count_in word = word % 2 ^ 20

abbrev pub heat_in : ℕ → ℕ
heat_in word = word / 2 ^ 21 % 2 ^ 11

-- the slot is hot: a pass heated it
abbrev pub IsHot : ℕ → Type 0
IsHot word = 0 < heat_in word

-- the takes from which on a slot becomes hot: a pass that is alone disturbs nobody
abbrev pub cold_takes : ℕ → ℕ
cold_takes passes = if passes == 1 then 2 ^ 19 else 16

-- the word of the list has the pass's bit
abbrev pub IsListedIn : ℕ → ℕ → Type 0
IsListedIn word pass = bit_at word (bit_of pass) ≡ 1

-- the word of a node: 0 while it is free; from its birth on this, less what was dropped; 1 and the
-- holds that are left, when its file was retired; after the close, the word that the closing step
-- left
abbrev pub birth_word : ℕ
birth_word = 2 ^ 32 + 1

-- the most takes that the word of a kept node has lost: so few that the next file's slot, whose
-- word begins with them, is cold
abbrev pub most_carried : ℕ
most_carried = 8

-- the word of a node has lost so few
abbrev pub MayCarry : ℕ → Type 0
MayCarry word = (word ≤ birth_word) × (birth_word ≤ word + most_carried)

abbrev pub closed_word : ℕ
closed_word = 1

-- the number that a retirement subtracts, from the takes and the charges
abbrev pub retirement_amount : ℕ → ℕ → ℕ
retirement_amount takes charges = 2 ^ 32 - (takes + charges)

-- the hold word of a pass that announces a node, and what a retirement adds to it
abbrev pub announced : ℕ → ℕ
announced node = node + 1

abbrev pub charge : ℕ
charge = 2 ^ 32
