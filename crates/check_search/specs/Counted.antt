-- Counts of the files that are installed at a slot and that leave it.
use Rattle.std.specs.Prelude.{◌≡◌, ◌⊎◌, ◌+◌, ◌<◌, ◌≤◌, ◌==◌, ◌&&◌, ◌∷◌}
use Rattle.check_search.specs.Words.{ℕ, not, Bool, true, false, List, [], count_by, cond, drop}
use Rattle.check_search.specs.Words.{slice_index, Claim, At, Full, Leaves, Empty, File, Condition}
use Rattle.check_search.specs.Words.{Something, Strand}
use Rattle.check_search.specs.Machine.{Standing, cell_at, may_leave, may_stay}
use Rattle.check_search.specs.declared.dead.SlotChange.{SlotChange}
use Rattle.check_search.specs.declared.dead.SlotChange.TheVariants.{Takes, Empties, Leaving}
use Rattle.check_search.specs.declared.dead.SlotChange.TheVariants.{Staying}

abbrev pub is_something : Condition → Bool
is_something Something = true
is_something condition = false

-- what is left at the slot is such a change
abbrev pub is_change : Leaves → Condition → SlotChange → Bool
is_change Empty condition Takes = is_something condition
is_change Empty condition Empties = true
is_change (File resident) condition Leaving = resident.leaves
is_change (File resident) condition Staying = not resident.leaves
is_change leaves condition change = false

-- the claim makes such a change of the slot
abbrev pub changes : SlotChange → ℕ → Claim → Bool
changes change slot (At at condition leaves) = (at == slot) && is_change leaves condition change
changes change slot Full = false

-- how many claims that make such a change are still to be made
abbrev pub to_come : SlotChange → ℕ → List Strand → List ℕ → ℕ
to_come change slot [] places = 0
to_come change slot (strand ∷ strands) places =
    count_by (changes change slot) (drop (slice_index places 0) strand.claims.items)
    + to_come change slot strands (drop 1 places)

-- how many files leave a slot: the one that is there, and those to come
abbrev pub leaving_files : List Strand → Standing → ℕ → ℕ
leaving_files strands at slot = cond (not (may_stay (cell_at at.cells slot))) 1 0
    + to_come Leaving slot strands at.places

-- how many stay there
abbrev pub staying_files : List Strand → Standing → ℕ → ℕ
staying_files strands at slot = cond (not (may_leave (cell_at at.cells slot))) 1 0
    + to_come Staying slot strands at.places

-- each file leaves the slot, and the last one that comes stays there
pub record LastStays (strands : List Strand) (at : Standing) (slot : ℕ) : Type 0 where
  pub none_empties : to_come Empties slot strands at.places ≡ 0
  pub none_stays : staying_files strands at slot ≡ 0
  pub some : 1 ≤ leaving_files strands at slot

-- two files stay at the slot, or more are taken from it than leave, or the last one stays
abbrev pub IsUneven : List Strand → Standing → ℕ → Type 0
IsUneven strands at slot = (2 ≤ staying_files strands at slot)
    ⊎ ((leaving_files strands at slot < to_come Takes slot strands at.places)
    ⊎ LastStays strands at slot)
