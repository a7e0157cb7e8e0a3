-- Passes as they are handed out and gathered.
use Rattle.std.specs.Prelude.{◌≡◌, ◌≤◌}
use Rattle.fx_lasting.specs.Words.{ℕ, true, false, List, [], flat_map, Option, Identity, Contents}
use Rattle.fx_lasting.specs.Words.{state_of, IsSettled, HasSameFiles, first_view, MOST_PASSES}
use Rattle.fx_lasting.specs.Words.{MOST_INSTALLING, LastingPass, Outside, Log, Start, View}
use Rattle.atomic_table.specs.declared.shared.Seat.{Seat}
use Rattle.fx_lasting.specs.Agrees.{Agrees}
use Rattle.fx_lasting.specs.life.Closing.{files_with_slots}
use Rattle.fx_lasting.specs.life.Cuts.{seats}
use Rattle.fx_lasting.specs.Passes.{Shared, HasNoFile, state_after_all}
use Rattle.fx_lasting.specs.declared.table.LastingTable.{LastingTable}
use Rattle.fx_lasting.specs.declared.view.Glance.TheVariants.{None as Nothing}
use mathlib.Core.Option.{some}
use lib.ListN.{get_elem?}

-- a table may have this number of passes, and the first `installing` of them install files
abbrev pub ArePasses : (installing passes : ℕ) → Type 0
ArePasses installing passes = (1 ≤ passes) × (passes ≤ MOST_PASSES) × (1 ≤ installing)
    × (installing ≤ MOST_INSTALLING) × (installing ≤ passes)

-- the passes of these seats, in their order
abbrev pub logs_in : List LastingPass → List Log
logs_in ps = flat_map (λ p. p.seat.me.0.logs) ps

-- the pass has this seat, number and stock, and has made no step
pub record IsNewPass (seat : Seat (Option Identity) View) (number : ℕ) (stock : List ℕ)
    (p : LastingPass) : Type 0 where
  pub its_seat : p.seat ≡ seat
  pub its_number : p.number ≡ number
  pub its_stock : p.stock.items ≡ stock
  pub next : p.next_entry ≡ 0
  pub flag : p.idle ≡ true
  pub unkept : p.keeps ≡ false
  pub unlisted : p.listed ≡ false
  pub unsure : p.sure ≡ false

-- the seat of a table that was just opened
pub record HasAllPasses (t : LastingTable) (seat : Seat (Option Identity) View) : Type 0 where
  pub table : seat.table_id ≡ t.table.shared.table_id
  pub me : seat.me ≡ (first_view seats t.table.shared.key, [])

-- a seat of the table whose passes are idle
pub record IsIdleSeatOf (t : LastingTable) (seat : Seat (Option Identity) View) : Type 0 where
  pub table : seat.table_id ≡ t.table.shared.table_id
  pub places : seat.me.1 ≡ []
  pub start : seat.me.0.start ≡ t.table.shared.key
  pub work : HasNoFile seat.me.0.work
  pub glance : seat.me.0.glance ≡ Nothing
  pub change : seat.me.0.change ≡ Outside

-- in every last state all passes are idle
abbrev pub AllAreIdle : Start → ℕ → View → Type 0
AllAreIdle k id v = (s : Shared) → Agrees k s → get_elem? s.views id ≡ some v
    → (seat : ℕ) (u : View) → get_elem? s.views seat ≡ some u → HasNoFile u.work

-- the files are those of a settled table, which has the files of some last state
pub record Leaves (k : Start) (id : ℕ) (v : View) (files : List (ℕ × Identity)) : Type 0 where
  pub last : Shared
  pub rule : Agrees k last
  pub view : get_elem? last.views id ≡ some v
  pub left : Contents
  pub same : HasSameFiles (state_after_all k rule.history) (state_of left)
  pub settled : IsSettled (state_of left)
  pub files_are : files ≡ files_with_slots (state_of left)
