-- Orders of a table's accesses that fit the claims of chains and the closes, the files that are in
-- the table at some time, and the claims of chains at some slots alone.
use Rattle.std.specs.Prelude.{◌≡◌, ◌<◌, ◌≤◌, ◌⊎◌, ◌==◌, ◌∷◌, if◌then◌else◌}
use Rattle.check_judge.specs.Words.{ℕ, List, length, Option, Some, None, Contains, All, IsTrue, Any}
use Rattle.check_judge.specs.Words.{[], filter, slice_get, Vec, Identity, Closed, Table, IsInRange}
use Rattle.check_judge.specs.Words.{PermitsAll, table_after, files_removed_in, accesses_of}
use Rattle.check_judge.specs.Words.{accesses_of_chain, table_of_slots, ChainAccess, Claim}
use Rattle.check_judge.specs.Words.{IsResident, Same, Empty, File, AllZip, Access, has_slot}
use Rattle.check_judge.specs.Claims.{AreClaims, Fits, touched}
use Rattle.check_search.specs.declared.cell.Cell.{Cell}
use Rattle.check_search.specs.declared.claim.Resident.{Resident}
use Rattle.check_judge.specs.declared.answered.TableRecorded.{TableRecorded}
use Rattle.check_judge.specs.declared.part.PartVerdict.{PartVerdict}
use Rattle.check_judge.specs.declared.part.PartVerdict.TheVariants.{Refuted}
use Rattle.check_search.specs.declared.claim.Claim.TheVariants.{At, Full}
use Rattle.check_search.specs.declared.claim.Strand.{Strand}

-- the file at a slot, and a test of whether the closes have it
abbrev pub ShowsFile : List Closed → Option Identity → Option Resident → Type 0
ShowsFile closes None None = Unit {0}
ShowsFile closes None (Some resident) = ⊥
ShowsFile closes (Some file) None = ⊥
ShowsFile closes (Some file) (Some resident) = IsResident closes file resident

-- a slot of the table, with the file that is there
pub record IsCell (table : Table) (closes : List Closed) (cell : Cell) : Type 0 where
  pub inside : cell.slot < table.size
  pub range : IsTrue cell.in_range → IsInRange table cell.slot
  pub shows : ShowsFile closes (table.at cell.slot) cell.file

-- `chains` chains make these accesses; the closes have exactly the files that they take from slots,
-- and none that they leave there
pub record IsPlayed (table : Table) (closes : List Closed) (chains : ℕ) (order : List ChainAccess)
    : Type 0 where
  pub permitted : PermitsAll table (accesses_of order)
  pub within : All (λ x. (1 ≤ x.chain) × (x.chain ≤ chains)) order
  pub removed : (file : Identity) → Contains (files_removed_in (accesses_of order)) file
      → Contains closes file
  pub all : (file : Identity) → Contains closes file
      → Contains (files_removed_in (accesses_of order)) file
  pub stay : (slot : ℕ) (file : Identity)
      → (table_after table (accesses_of order)).at slot ≡ Some file → Contains closes file → ⊥

-- no such order fits the claims
abbrev pub HasNoOrder : Table → List Closed → List (Vec Claim) → Type 0
HasNoOrder table closes chains = (order : List ChainAccess)
    → IsPlayed table closes (length chains) order → AreClaims closes chains order → ⊥

-- this holds if the verdict is that there is no order
abbrev pub IfRefuted : Type 0 → PartVerdict → Type 0
IfRefuted P (Refuted reason) = P
IfRefuted P verdict = Unit {0}

-- the same of a table with its closes and claims: no order, the verdict on it, and cells that are
-- slots of it
abbrev pub IsOrderless : TableRecorded → Type 0
IsOrderless table = HasNoOrder (table_of_slots table.slots.now) table.closes.now table.chains.now

abbrev pub IsTableVerdict : TableRecorded → PartVerdict → Type 0
IsTableVerdict table = IfRefuted (IsOrderless table)

abbrev pub AreCellsOf : TableRecorded → List Cell → Type 0
AreCellsOf table = All (IsCell (table_of_slots table.slots.now) table.closes.now)

-- the claim leaves the file at its slot
abbrev pub Brings : Claim → Identity → Type 0
Brings (At slot condition Same) file = ⊥
Brings (At slot condition Empty) file = ⊥
Brings (At slot condition (File resident)) file = resident.file ≡ file
Brings Full file = ⊥

-- a claim of a chain does
abbrev pub IsBrought : List (Vec Claim) → Identity → Type 0
IsBrought chains file = Any (λ claims. Any (λ claim. Brings claim file) claims.items) chains

-- the file was at a slot, or a claim leaves it there
abbrev pub IsKnown : List (Option Identity) → List (Vec Claim) → Identity → Type 0
IsKnown slots chains file = Contains slots (Some file) ⊎ IsBrought chains file

-- the accesses of these slots
abbrev pub seen : List Cell → List Access → List Access
seen cells accesses = filter (λ access. has_slot cells (touched access)) accesses

-- these are the claims of an order's chains at these slots, each chain's once; the other
-- chains have none
pub record AreStrands (closes : List Closed) (cells : List Cell) (chains : ℕ)
    (order : List ChainAccess) (strands : List Strand) : Type 0 where
  pub fits : (i : ℕ) (strand : Strand) → slice_get strands i ≡ Some strand
      → AllZip (Fits closes) strand.claims.items (seen cells (accesses_of_chain strand.chain order))
  pub each : (chain : ℕ) → 1 ≤ chain → chain ≤ chains
      → ((i : ℕ) × (strand : Strand) × (slice_get strands i ≡ Some strand) × (strand.chain ≡ chain))
      ⊎ (seen cells (accesses_of_chain chain order) ≡ [])
  pub once : (i j : ℕ) (one other : Strand) → slice_get strands i ≡ Some one
      → slice_get strands j ≡ Some other → one.chain ≡ other.chain → i ≡ j

-- the claims of a chain at these slots, if it has some
abbrev pub strand_for : ℕ → Vec Claim → List Strand
strand_for chain claims =
    if length claims.items == 0 then [] else record { chain = chain; claims = claims } ∷ []
