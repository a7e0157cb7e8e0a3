-- The number of full slots.
use Rattle.std.specs.Prelude.{ℕ, zero, suc, ◌+◌, Option, Some, None}
use Rattle.fx_plain.specs.State.{State, file_numbered}
use Rattle.fx_plain.specs.declared.event.File.{File}

-- 1 for a slot with a file, otherwise 0
abbrev pub if_full : Option File → ℕ
if_full None = 0
if_full (Some f) = 1

-- the full slots among the `len` slots from `off` on
abbrev pub full_in : (at : ℕ → Option File) (off len : ℕ) → ℕ
full_in at off zero = 0
full_in at off (suc len) = full_in at off len + if_full (at (off + len))

-- the file at a slot when passes begin, under the slot's number
abbrev pub first_at : State → ℕ → Option File
first_at st slot = file_numbered (st.at slot) slot
