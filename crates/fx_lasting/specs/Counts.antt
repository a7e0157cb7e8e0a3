-- Counts over the numbers of passes.
use Rattle.std.specs.Prelude.{◌+◌, ◌==◌, if◌then◌else◌, ℕ, zero, suc, Bool}

-- of how many of the passes 1 to n this holds
abbrev pub tally : (ℕ → Bool) → ℕ → ℕ
tally f zero = 0
tally f (suc n) = tally f n + (if f (suc n) then 1 else 0)

-- how many passes owe a charge to the node. A pass's debt is a node plus 1, or 0
abbrev pub owed : (ℕ → ℕ) → ℕ → ℕ → ℕ
owed debt passes node = tally (λ p. debt p == node + 1) passes
