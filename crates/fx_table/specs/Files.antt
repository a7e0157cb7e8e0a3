-- The files that a table has.
use Rattle.std.specs.Prelude.{◌≡◌, ℕ, ◌⊎◌, Some}
use Rattle.fx_plain.specs.State.{State}
use Rattle.fx_plain.specs.declared.event.File.{File}

-- the file is at a slot, or was removed and isn't closed
abbrev pub HasFile : State → File → Type 0
HasFile st f = ((slot : ℕ) × (st.at slot ≡ Some f)) ⊎ (st.removed f.number ≡ Some f)
