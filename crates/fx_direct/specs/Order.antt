-- The vacant slots, and the slots that the kernel chooses.
use Rattle.std.specs.Prelude.{◌≡◌, ◌-◌, ◌<◌, ◌==◌, ◌&&◌, ◌∷◌}
use Rattle.fx_direct.specs.Words.{ℕ, nat_le, nat_lt, Bool, true, false, List, [], list_any}
use Rattle.fx_direct.specs.Words.{SlotRange}

-- the slot is in the ring's allocation range, where the kernel chooses slots
abbrev pub is_ranged : SlotRange → ℕ → Bool
is_ranged range slot = nat_le range.first slot && nat_lt (slot - range.first) range.length

-- the vacant slots, of which the last one is taken first, the number of all slots, and the ring's
-- allocation range, of which no slot is vacant
pub record Order : Type 0 where
  pub vacant : List ℕ
  pub size : ℕ
  pub range : SlotRange

abbrev pub ordered : List ℕ → ℕ → SlotRange → Order
ordered vacant size range = record { vacant = vacant; size = size; range = range }

-- the slot is one of these
abbrev pub is_among : List ℕ → ℕ → Bool
is_among slots slot = list_any (λ other. slot == other) slots

-- the slot is one of the vacant ones
abbrev pub is_among_vacant : Order → ℕ → Bool
is_among_vacant v slot = is_among v.vacant slot

-- none of these slots is there twice
abbrev pub AreOnce : List ℕ → Type 0
AreOnce [] = Unit {0}
AreOnce (slot ∷ slots) = (is_among slots slot ≡ false) × AreOnce slots

-- each vacant slot is there once, and is one of all slots
pub record IsOrder (v : Order) : Type 0 where
  pub once : AreOnce v.vacant
  pub inside : (slot : ℕ) → is_among v.vacant slot ≡ true → slot < v.size
