-- Lists whose first elements alone are written: room for the rest is reserved, and all those
-- elements have one value.
use Rattle.std.specs.Prelude.{ℕ, ◌-◌, List, ◌++◌, length, replicate}

-- a list of `len` elements: the written ones, then the rest
abbrev pub with_rest : {X : Type 0} → X → ℕ → List X → List X
with_rest rest len written = written ++ replicate (len - length written) rest
