-- The bits of keys.
use Rattle.std.specs.Prelude.{◌≡◌, ◌+◌, ◌*◌, ◌/◌, ◌%◌, ◌<◌, ◌≤◌, ◌^◌}
use Rattle.fx_direct.specs.Words.{ℕ, LifeKey, KINDS, MOST_LIVES, MOST_SLOTS}

-- the key has bits: 20 for its slot, 40 for its number
abbrev pub FitsBits : LifeKey → Type 0
FitsBits k = (k.slot < MOST_SLOTS) × (k.number ≤ MOST_LIVES)

-- the user data of a call of a kind under a key
abbrev pub bits_of : LifeKey → ℕ → ℕ
bits_of k kind = (k.number * 2 ^ 20 + k.slot) * 16 + kind

-- the key of a call with this user data
abbrev pub key_in_bits : ℕ → LifeKey
key_in_bits bits = record { slot = bits / 16 % 2 ^ 20; number = bits / 16 / 2 ^ 20 }

-- a key and a kind come back from their bits, which fit 64
abbrev pub KeyBitsComeBack : Type 0
KeyBitsComeBack =
    (k : LifeKey) (kind : ℕ) → FitsBits k → kind < KINDS
    → (key_in_bits (bits_of k kind) ≡ k) × (bits_of k kind % KINDS ≡ kind)
    × (bits_of k kind < 2 ^ 64)
