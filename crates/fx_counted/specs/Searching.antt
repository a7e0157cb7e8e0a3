-- A pass that searches the allocation range for an empty slot.
use Rattle.std.specs.Prelude.{◌≡◌, ◌<◌, ◌∷◌, ℕ, Bool, true, false, [], List, Option, Some}
use Rattle.fx_counted.specs.Words.{Seat, Identity, ◌▷◌, numbered, Action, Allocate, Full, Use}
use Rattle.fx_counted.specs.Words.{no_use, one_number, Change, Outside, Same, More, Start, View}
use Rattle.fx_counted.specs.Words.{Work, Between, Placing, Idle}
use Rattle.fx_counted.specs.Changing.{IsAtWork}
use Rattle.fx_counted.specs.Goes.{Goes}
use Rattle.fx_counted.specs.Laws.{place_of}
use Rattle.fx_counted.specs.Passes.{Sat, slots_of}
use Rattle.fx_counted.specs.declared.round.Round.{Round}
use Rattle.fx_counted.specs.declared.table.CountedTable.{CountedTable}
use Rattle.fx_counted.specs.declared.round.Round.TheVariants.{At, AllFull, Again}

-- the seat's pass has the place of the number, with the file that it is about to install
pub record IsPlacing (k : Start) (number : ℕ) (file : Identity) (m : Sat) : Type 0 where
  pub at : IsAtWork k m
  pub work : m.0.work ≡ Placing number
  pub place : m.1 ≡ (place_of k number, Some file) ∷ []

-- the seat of a pass of the table that is about to install the file, with this change to report
pub record IsSearching (t : CountedTable) (number : ℕ) (file : Identity) (to_report : Change)
    (seat : Seat (Option Identity) View) : Type 0 where
  pub table : seat.table_id ≡ t.table.shared.table_id
  pub placing : IsPlacing t.table.shared.key number file seat.me
  pub change : seat.me.0.change ≡ to_report

-- any number of steps
abbrev pub Proceeds : Sat → List Action → Use → Work → Change → Sat → Type 0
Proceeds m actions used w c m' = (most : ℕ) × Goes m actions used w c most m'

-- the file is still to be installed
abbrev pub StillPlaces : (number : ℕ) (c : Change) (m m' : Sat) → Type 0
StillPlaces number c m m' = Proceeds m [] no_use (Placing number) c m' × (m'.1 ≡ m.1)

-- the file is at the slot, which was empty before
abbrev pub HasAllocated : (number : ℕ) (file : Identity) (slot : ℕ) (c : Change) (m m' : Sat)
    → Type 0
HasAllocated number file slot c m m' =
    Proceeds m ([] ▷ Allocate slot (numbered number file)) one_number (Between Idle) c m'
    × (m'.1 ≡ [])

-- every slot of the range had a file, and this one is still to be installed
abbrev pub HasFoundAllFull : (number : ℕ) (m m' : Sat) → Type 0
HasFoundAllFull number m m' =
    Proceeds m ([] ▷ Full) no_use (Placing number) Outside m' × (m'.1 ≡ m.1)

-- a try at one slot
abbrev pub Tries : (number : ℕ) (file : Identity) (slot : ℕ) (m : Sat) → Bool → Sat → Type 0
Tries number file slot m true m' = HasAllocated number file slot More m m'
Tries number file slot m false m' = StillPlaces number Same m m'

-- one round over the range
abbrev pub RoundEnds : Start → ℕ → Identity → Sat → Round → Sat → Type 0
RoundEnds k number file m (At slot) m' =
    (slot < slots_of k) × HasAllocated number file slot Outside m m'
RoundEnds k number file m AllFull m' = HasFoundAllFull number m m'
RoundEnds k number file m Again m' = StillPlaces number Outside m m'
