-- The files that a lasting table is closed into.
use Rattle.std.specs.Prelude.{◌≡◌, ◌∷◌, ◌++◌, None, ℕ, zero, suc, List, [], Option, Some}
use Rattle.fx_lasting.specs.Words.{Identity, Contents, state_of, identity_of, Opening, PassView}
use Rattle.fx_plain.specs.State.{State}
use Rattle.fx_table.specs.Closing.{ClosesTable}

-- the file of a slot with the slot's number, if there is one
abbrev pub with_slot : ℕ → Option Identity → List (ℕ × Identity)
with_slot slot None = []
with_slot slot (Some file) = (slot, file) ∷ []

-- the files of the first `n` slots with their slots, in order of slot
abbrev pub files_at_slots : (ℕ → Option Identity) → ℕ → List (ℕ × Identity)
files_at_slots file zero = []
files_at_slots file (suc n) = files_at_slots file n ++ with_slot n (file n)

-- the files of a table with their slots, in order of slot
abbrev pub files_with_slots : State → List (ℕ × Identity)
files_with_slots st = files_at_slots (λ slot. identity_of (st.at slot)) st.size

-- the list has the files of a table of one thread that a close can return
pub record ClosesInto (o : Opening) (passes : List PassView) (files : List (ℕ × Identity))
    : Type 0 where
  pub left : Contents
  pub closing : ClosesTable o passes left
  pub files_are : files ≡ files_with_slots (state_of left)
