-- The search of a stock.
use Rattle.std.specs.Prelude.{◌+◌, ◌==◌, if◌then◌else◌, ℕ}

-- the entry after this one in a stock of `len` nodes; the last one's is the first
abbrev pub next_of : ℕ → ℕ → ℕ
next_of len entry = if entry + 1 == len then 0 else entry + 1
