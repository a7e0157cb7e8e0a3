-- A scan of the allocation range, which goes once through its groups, and finds no empty slot.
use Rattle.std.specs.Prelude.{◌≡◌, ◌+◌, ◌*◌, ◌%◌, ◌<◌, ◌≤◌}
use Rattle.fx_lasting.specs.Words.{ℕ, true, group_of, Start}
use Rattle.fx_lasting.specs.Effects.{pass_in}
use Rattle.fx_lasting.specs.Laws.{IsInRange}
use Rattle.fx_lasting.specs.Passes.{Sat, range_at_start}
use Rattle.fx_lasting.specs.slots.AtEmpty.{FitsSight}
use Rattle.fx_lasting.specs.slots.ByNode.{WasSo}

-- such a step leads from each group to all of them, within as many steps as there are groups
abbrev pub LeadsToAll : (groups step : ℕ) → Type 0
LeadsToAll groups step = (first group : ℕ) → group < groups
    → (i : ℕ) × (i < groups) × ((first + i * step) % groups ≡ group)

-- this holds of each slot from one to another, of a group, or of the range
abbrev pub EachFrom : (from to : ℕ) → (ℕ → Type 0) → Type 0
EachFrom from to is = (slot : ℕ) → from ≤ slot → slot < to → is slot

abbrev pub EachInGroup : Start → ℕ → (ℕ → Type 0) → Type 0
EachInGroup k group is = (slot : ℕ) → IsInRange k slot → group_of (range_at_start k) slot ≡ group
    → is slot

abbrev pub EachInRange : Start → (ℕ → Type 0) → Type 0
EachInRange k is = (slot : ℕ) → IsInRange k slot → is slot

-- the slot had a file at a moment of some steps
abbrev pub WasFull : Start → Sat → Sat → ℕ → Type 0
WasFull k m m' slot = WasSo k slot (FitsSight true) (pass_in m).front (pass_in m').front
