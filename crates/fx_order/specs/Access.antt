-- Accesses of a table that is only its size, its allocation range and the file at each slot. A
-- request that reaches the table makes one access, and an update one for each entry of its list.
use Rattle.fx_order.specs.Words.{ℕ, List, [], map, filter, Option, Some, None, IsSome, Identity}
use Rattle.fx_order.specs.Words.{Closed, Access, ChainAccess}
use Rattle.std.specs.Prelude.{◌≡◌, ◌⊎◌, ◌+◌, ◌<◌, ◌≤◌, ◌==◌, ◌∷◌, ◌++◌}
use Rattle.std.specs.Option.{option_to_list}
use Rattle.fx_plain.specs.Step.{changed_at}
use Rattle.fx_chain.specs.declared.intent.Finding.{Finding}
use Rattle.fx_chain.specs.declared.intent.Finding.TheVariants.{At, Free, Full}
use Rattle.fx_chain.specs.declared.intent.Intent.{Intent}
use Rattle.fx_chain.specs.declared.intent.Intent.TheVariants.{Look, Put, Clear, Take, Allocate}
pub use Rattle.fx_order.specs.declared.access.Access.TheVariants.{Looks, Puts, Clears, Takes}
pub use Rattle.fx_order.specs.declared.access.Access.TheVariants.{Allocates, FindsFull}

pub record Table : Type 0 where
  -- the number of slots, which are numbered from 0
  pub size : ℕ
  -- the first slot of the allocation range, and its length
  pub range : ℕ × ℕ
  -- the file at each slot
  pub at : ℕ → Option Identity

-- the slot is one of the allocation range
abbrev pub IsInRange : Table → ℕ → Type 0
IsInRange table slot = (table.range.0 ≤ slot) × (slot < table.range.0 + table.range.1)

-- the slot is one of the table, and has this file or none
abbrev pub IsAt : Table → ℕ → Option Identity → Type 0
IsAt table slot found = (slot < table.size) × (found ≡ table.at slot)

-- the condition of an access, in the table before it
abbrev pub Permits : Table → Access → Type 0
Permits table (Looks slot found) = IsAt table slot found
Permits table (Puts slot file removed) = IsAt table slot removed
Permits table (Clears slot removed) = IsAt table slot removed
Permits table (Takes slot removed) = IsAt table slot removed
Permits table (Allocates slot file) = IsAt table slot None × IsInRange table slot
Permits table FindsFull =
    (slot : ℕ) → slot < table.size → IsInRange table slot → IsSome (table.at slot)

abbrev pub with_file : Table → ℕ → Option Identity → Table
with_file table slot file = record table { at = changed_at table.at slot file }

-- the table after an access
abbrev pub table_with : Table → Access → Table
table_with table (Looks slot found) = table
table_with table (Puts slot file removed) = with_file table slot (Some file)
table_with table (Clears slot removed) = with_file table slot None
table_with table (Takes slot removed) = with_file table slot None
table_with table (Allocates slot file) = with_file table slot (Some file)
table_with table FindsFull = table

-- the access is what a request intended, whatever it found
abbrev pub IsOf : Intent → Access → Type 0
IsOf (Look slot) a = (found : Option Identity) × (a ≡ Looks slot found)
IsOf (Put slot file) a = (removed : Option Identity) × (a ≡ Puts slot file removed)
IsOf (Clear slot) a = (removed : Option Identity) × (a ≡ Clears slot removed)
IsOf (Take slot) a = (removed : Option Identity) × (a ≡ Takes slot removed)
IsOf (Allocate file) a = ((slot : ℕ) × (a ≡ Allocates slot file)) ⊎ (a ≡ FindsFull)

-- what an access found
abbrev pub finding_of : Access → Finding
finding_of (Looks slot found) = At found
finding_of (Puts slot file removed) = At removed
finding_of (Clears slot removed) = At removed
finding_of (Takes slot removed) = At removed
finding_of (Allocates slot file) = Free slot
finding_of FindsFull = Full

-- what the last one of these accesses found
abbrev pub last_finding : List Access → Option Finding
last_finding [] = None
last_finding (a ∷ []) = Some (finding_of a)
last_finding (a ∷ b ∷ accesses) = last_finding (b ∷ accesses)

-- the catalogue entry of the file that the first of these accesses installs, if it installs one
abbrev pub entry_installed : List Access → Option ℕ
entry_installed (Puts slot file removed ∷ accesses) = Some file.entry
entry_installed (Allocates slot file ∷ accesses) = Some file.entry
entry_installed accesses = None

-- the file that an access takes from its slot, if there is one
abbrev pub file_removed_by : Access → Option Identity
file_removed_by (Puts slot file removed) = removed
file_removed_by (Clears slot removed) = removed
file_removed_by (Takes slot removed) = removed
file_removed_by _ = None

-- the accesses are permitted one after another, in order
abbrev pub PermitsAll : Table → List Access → Type 0
PermitsAll table [] = Unit {0}
PermitsAll table (access ∷ accesses) =
    Permits table access × PermitsAll (table_with table access) accesses

-- the table after all of them
abbrev pub table_after : Table → List Access → Table
table_after table [] = table
table_after table (access ∷ accesses) = table_after (table_with table access) accesses

-- the files that the accesses took from their slots, in order
abbrev pub files_removed_in : List Access → List Closed
files_removed_in [] = []
files_removed_in (access ∷ accesses) =
    option_to_list (file_removed_by access) ++ files_removed_in accesses

abbrev pub access_of : ChainAccess → Access
access_of x = x.access

abbrev pub accesses_of : List ChainAccess → List Access
accesses_of order = map access_of order

-- the accesses of one chain, in their order
abbrev pub accesses_of_chain : ℕ → List ChainAccess → List Access
accesses_of_chain chain order = accesses_of (filter (λ x. x.chain == chain) order)
