-- The groups of the allocation range, which is a first slot and a number of slots.
use Rattle.std.specs.Prelude.{ℕ, ◌+◌, ◌-◌, ◌*◌, ◌/◌, nat_lt, if◌then◌else◌, Bool, false}

-- the word with a bit for each pass that asks whether the allocation range is full
abbrev pub question_place : ℕ
question_place = 0

-- the word of a group, which counts its full slots. There are at most 64 groups
abbrev pub group_place : ℕ → ℕ
group_place group = 22 + 8 * group

-- the group whose word is at the place
abbrev pub group_at : ℕ → ℕ
group_at place = (place - 22) / 8

-- the number of slots of a group, in a range of `len` slots. The last group may have fewer
abbrev pub group_size : ℕ → ℕ
group_size len = if nat_lt 65536 len then 16384
    else if nat_lt 4096 len then 1024 else if nat_lt 256 len then 64 else 4

-- the number of groups
abbrev pub groups_in : ℕ → ℕ
groups_in len = (len + (group_size len - 1)) / group_size len

-- the group of a slot of the range
abbrev pub group_of : ℕ × ℕ → ℕ → ℕ
group_of range slot = (slot - range.0) / group_size range.1

-- the first slot of a group, and the number of its slots
abbrev pub group_start : ℕ × ℕ → ℕ → ℕ
group_start range group = range.0 + group * group_size range.1

abbrev pub group_len : ℕ → ℕ → ℕ
group_len len group = let left = len - group * group_size len in
    if nat_lt left (group_size len) then left else group_size len

-- whether a slot is in the range
abbrev pub is_in : ℕ × ℕ → ℕ → Bool
is_in range slot = if nat_lt slot range.0 then false else nat_lt slot (range.0 + range.1)
