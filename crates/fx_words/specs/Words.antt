-- The words of the lock-free table, as numbers.
use Rattle.std.specs.Prelude.{ℕ, ℤ, pos, negsuc, ◌+◌, ◌-◌, ◌*◌, ◌/◌, ◌%◌, ◌^◌, ◌==◌, if◌then◌else◌}
use Rattle.std.specs.Prelude.{Option, Some, None}

-- the greatest file number
abbrev pub last_node : ℕ
last_node = 16777214

-- the greatest number of slots of a table
abbrev pub most_slots : ℕ
most_slots = 256

-- bits 63 to 40 are the number plus 1, bits 39 to 32 the entry, and bits 31 to 0, the takes, are 0
abbrev pub slot_word_of : (node entry : ℕ) → ℕ
slot_word_of node entry = (node + 1) * 2 ^ 40 + entry * 2 ^ 32

-- bits 63 to 40: 0, or the file's number plus 1
abbrev pub name_in : ℕ → ℕ
name_in word = word / 2 ^ 40

abbrev pub named : ℕ → Option ℕ
named name = if name == 0 then None else Some (name - 1)

-- the number of the file that a slot word names
abbrev pub node_in : ℕ → Option ℕ
node_in word = named (name_in word)

abbrev pub entry_in : ℕ → ℕ
entry_in word = word / 2 ^ 32 % 2 ^ 8

abbrev pub takes_in : ℕ → ℕ
takes_in word = word % 2 ^ 32

-- the node word of a file that a slot names, before its first release
abbrev pub born : ℕ
born = 2 ^ 32

abbrev pub retire_amount_of : ℕ → ℕ
retire_amount_of takes = born - takes

-- the control word's share for each pass in a change
abbrev pub one_change : ℕ
one_change = 2 ^ 32

-- added to the full slots that are counted, so that the sum stays positive
abbrev pub bias : ℕ
bias = 65536

abbrev pub control_word_of : ℕ → ℕ
control_word_of full = bias + full

abbrev pub end_amount_of : ℤ → ℕ
end_amount_of (pos n) = one_change - n
end_amount_of (negsuc n) = one_change + (n + 1)

-- the control word while one pass is in a change and `len` slots are full
abbrev pub full_word_of : ℕ → ℕ
full_word_of len = one_change + bias + len
