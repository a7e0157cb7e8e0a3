-- The claims of chains as a machine: how many claims of each chain were made, and the files
-- at slots.
use Rattle.std.specs.Prelude.{◌≡◌, ◌⊎◌, ◌+◌, ◌==◌, ◌&&◌, ◌||◌, ◌∷◌, if◌then◌else◌}
use Rattle.check_search.specs.Words.{ℕ, not, Bool, true, false, List, [], map, slice_get}
use Rattle.check_search.specs.Words.{slice_index, slice_index_or, slice_set, Option, Some, None}
use Rattle.check_search.specs.Words.{option_and_then, is_some, Contains, list_all, Resident}
use Rattle.check_search.specs.Words.{Condition, Anything, Nothing, NothingToTake, Something, Bytes}
use Rattle.check_search.specs.Words.{Leaves, Same, Empty, File, Claim, At, Full, Cell, Strand}
use Rattle.check_search.specs.declared.node.SearchNode.{SearchNode}

-- the file at a slot
abbrev pub cell_at : List Cell → ℕ → Option Resident
cell_at [] slot = None
cell_at (cell ∷ cells) slot = if cell.slot == slot then cell.file else cell_at cells slot

-- the file found is one that the claim speaks of
abbrev pub suits : Condition → Option Resident → Bool
suits Anything found = true
suits Nothing found = not (is_some found)
suits NothingToTake found = not (is_some found)
suits Something found = is_some found
suits (Bytes fits) None = false
suits (Bytes fits) (Some resident) = slice_index_or fits resident.file.entry true

-- it is not a file, or one that the closes have
abbrev pub may_leave : Option Resident → Bool
may_leave None = true
may_leave (Some resident) = resident.leaves

abbrev pub is_taken : Cell → Bool
is_taken cell = not cell.in_range || is_some cell.file

-- it is not a file, or one that the closes don't have
abbrev pub may_stay : Option Resident → Bool
may_stay None = true
may_stay (Some resident) = not resident.leaves

abbrev pub is_staying : Cell → Bool
is_staying cell = may_stay cell.file

abbrev pub is_same : Leaves → Bool
is_same Same = true
is_same Empty = false
is_same (File resident) = false

-- the claim may be made where this is at its slot
abbrev pub may_find : Claim → Option Resident → Bool
may_find (At slot condition leaves) found =
    suits condition found && (is_same leaves || may_leave found)
may_find Full found = true

-- the access may be made where the slots have these files
abbrev pub allows : List Cell → Claim → Bool
allows cells (At slot condition leaves) = may_find (At slot condition leaves) (cell_at cells slot)
allows cells Full = list_all is_taken cells

abbrev pub cell_with : ℕ → Option Resident → Cell → Cell
cell_with slot file cell = if cell.slot == slot then record cell { file = file } else cell

abbrev pub with_cell : List Cell → ℕ → Option Resident → List Cell
with_cell cells slot file = map (cell_with slot file) cells

-- the files at the slots then
abbrev pub cells_after : List Cell → Claim → List Cell
cells_after cells (At slot condition Same) = cells
cells_after cells (At slot condition Empty) = with_cell cells slot None
cells_after cells (At slot condition (File resident)) = with_cell cells slot (Some resident)
cells_after cells Full = cells

-- how many claims of each chain were made, and the files at the slots
pub record Standing : Type 0 where
  pub places : List ℕ
  pub cells : List Cell

abbrev pub view : SearchNode → Standing
view node = record { places = node.places.items; cells = node.cells.items }

-- the claim that a chain makes next
abbrev pub claim_at : List Strand → List ℕ → ℕ → Option Claim
claim_at strands places c =
    option_and_then (λ strand. slice_get strand.claims.items (slice_index places c))
    (slice_get strands c)

-- where a claim of a chain leads, if it may be made
abbrev pub made : Standing → ℕ → Claim → Option Standing
made at c claim =
    if allows at.cells claim
    then Some (record {
      places = slice_set at.places c (slice_index at.places c + 1);
      cells = cells_after at.cells claim;
    })
    else None

-- where the next claim of a chain leads, if it may be made
abbrev pub next : List Strand → Standing → ℕ → Option Standing
next strands at c = option_and_then (made at c) (claim_at strands at.places c)

-- all claims were made, and no slot has a file that the closes have
pub record IsEndOfClaims (strands : List Strand) (at : Standing) : Type 0 where
  pub over : (c : ℕ) → claim_at strands at.places c ≡ None
  pub stay : list_all is_staying at.cells ≡ true

-- claims of these chains may be made one after another, the first one first, to an end
abbrev pub Ends : List Strand → Standing → List ℕ → Type 0
Ends strands at [] = IsEndOfClaims strands at
Ends strands at (c ∷ order) =
    (mid : Standing) × (next strands at c ≡ Some mid) × Ends strands mid order

-- no order leads to an end
unfoldable pub HasNoEnd : List Strand → Standing → Type 0
HasNoEnd strands at = (order : List ℕ) → Ends strands at order → ⊥

-- the next claim of a chain leads to one of these if it may be made, or from there no order leads
-- to an end
abbrev pub StepLeadsInside : List Strand → List Standing → Standing → ℕ → Type 0
StepLeadsInside strands standings at c = (mid : Standing)
    → next strands at c ≡ Some mid → Contains standings mid ⊎ HasNoEnd strands mid

-- each step from here does
unfoldable pub LeadsInside : List Strand → List Standing → Standing → Type 0
LeadsInside strands standings at = (c : ℕ) → StepLeadsInside strands standings at c

-- a claim that changes nothing
abbrev pub is_test : Claim → Bool
is_test (At slot condition Same) = true
is_test (At slot condition Empty) = false
is_test (At slot condition (File resident)) = false
is_test Full = true

-- the next claim of a chain only tests, may be made, and leads to one of these
pub record TestLeadsInside (strands : List Strand) (standings : List Standing) (at : Standing)
    (c : ℕ) : Type 0 where
  pub claim : Claim
  pub mid : Standing
  pub claims : claim_at strands at.places c ≡ Some claim
  pub test : is_test claim ≡ true
  pub leads : next strands at c ≡ Some mid
  pub inside : Contains standings mid

-- each step from here leads to one of these, or one does that only tests: it may be made first
unfoldable pub IsExplored : List Strand → List Standing → Standing → Type 0
IsExplored strands standings at =
    LeadsInside strands standings at ⊎ ((c : ℕ) × TestLeadsInside strands standings at c)

-- no end, and each step from it was looked at
pub record IsLookedThrough (strands : List Strand) (standings : List Standing) (at : Standing)
    : Type 0 where
  pub no_end : IsEndOfClaims strands at → ⊥
  pub explored : IsExplored strands standings at
