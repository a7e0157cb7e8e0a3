-- A worker: its parts, its invariant, and the facts of which the clauses of its calls consist.
use Rattle.std.specs.Prelude.{◌≡◌, ◌⊎◌, ◌≤◌, ℕ, ℤ, true, Option, Some, None, is_some}
use Rattle.fx_server.specs.Words.{Identity, File, HasRetired, Opening, size_of, PassView, IsIdle}
use Rattle.fx_server.specs.Words.{IsHoldOf, Holding, Hold, Retired, number_of_mark, MOST_SLOTS}
use Rattle.fx_server.specs.Words.{MOST_PASSES, MOST_INSTALLING, view_of, opening_of_table}
use Rattle.fx_server.specs.Words.{IsPassOfTable, LastingPass, LastingTable, CoreOutcome, BUSY}
use Rattle.fx_server.specs.Words.{IN_USE, NO_SLOT, READER, FileNumbers, Shared, Held}
use Rattle.fx_lasting.specs.declared.view.Start.{Start}
use Rattle.fx_server.specs.FileNumbers.{after_draw}
use Rattle.fx_server.specs.Outcomes.{dropped_or, tag_of}
use Rattle.fx_server.specs.Worker.{TableWorker}

-- a table can have this many slots and workers, and workers that install files
abbrev pub IsInRange : (slots workers installing : ℕ) → Type 0
IsInRange slots workers installing = (1 ≤ slots) × (slots ≤ MOST_SLOTS) × (1 ≤ workers)
    × (workers ≤ MOST_PASSES) × (1 ≤ installing) × (installing ≤ MOST_INSTALLING)
    × (installing ≤ workers)

abbrev pub worker_of : Shared → Option Held → FileNumbers → LastingPass → TableWorker
worker_of shared held numbers pass =
    record { shared = shared; held = held; numbers = numbers; pass = pass }

abbrev pub its_table : TableWorker → LastingTable
its_table w = w.shared.table

abbrev pub its_opening : TableWorker → Opening
its_opening w = opening_of_table (its_table w)

abbrev pub its_pass : TableWorker → PassView
its_pass w = view_of w.pass

abbrev pub its_start : TableWorker → Start
its_start w = (its_table w).table.shared.key

-- the pass is one of the table, and idle
abbrev pub IsReady : LastingTable → LastingPass → Type 0
IsReady t p = IsPassOfTable t p × IsIdle (view_of p)

-- the hold with the worker's fields
abbrev pub hold_in : Held → Hold
hold_in held = record { node = held.node; entry = held.entry }

-- the pass does what the worker's field says
abbrev pub DoesAsHeld : PassView → Option Held → Type 0
DoesAsHeld v None = IsIdle v
DoesAsHeld v (Some held) = IsHoldOf v (hold_in held)

-- between two calls: the pass is one of the table, and is idle or holds by the worker's hold
pub record IsGood (w : TableWorker) : Type 0 where
  pub fits : IsPassOfTable (its_table w) w.pass
  pub does : DoesAsHeld (its_pass w) w.held

-- the worker has drawn this number, its next one, and nothing else; or it has drawn none
abbrev pub UsesNumber : TableWorker → ℕ → TableWorker → Type 0
UsesNumber w number w' = (number ≡ w.numbers.next) × (w'.numbers ≡ after_draw w.numbers)

abbrev pub DrawsNone : TableWorker → TableWorker → Type 0
DrawsNone w w' = w'.numbers ≡ w.numbers

-- the refusals of a worker, which change nothing: it holds a file
abbrev pub IsBusy : TableWorker → ℤ → Type 0
IsBusy w answer = (answer ≡ BUSY) × (is_some w.held ≡ true)

-- the table has no such slot
abbrev pub HasNoSlot : TableWorker → ℕ → ℤ → Type 0
HasNoSlot w slot answer = (answer ≡ NO_SLOT) × (size_of (its_opening w) ≤ slot)

-- it doesn't install files
abbrev pub IsReader : TableWorker → ℤ → Type 0
IsReader w answer = (answer ≡ READER) × ((its_pass w).numbers_left ≡ 0)

abbrev pub IsRefused : TableWorker → ℤ → Type 0
IsRefused w answer = IsReader w answer ⊎ IsBusy w answer

abbrev pub IsRefusedAt : TableWorker → ℕ → ℤ → Type 0
IsRefusedAt w slot answer = HasNoSlot w slot answer ⊎ IsRefused w answer

-- the file that the pass holds by this hold has this tag and this number
abbrev pub HasLabel : PassView → Hold → (tag number : ℕ) → Type 0
HasLabel v hold tag number = (f : File) → v.doing ≡ Holding f hold
    → (tag ≡ f.identity.tag) × (number ≡ number_of_mark f.identity.mark)

-- this is the number of the file that the pass holds by this hold
abbrev pub HasNumber : PassView → Hold → ℕ → Type 0
HasNumber v hold number = (f : File) → v.doing ≡ Holding f hold
    → number ≡ number_of_mark f.identity.mark

-- the worker holds a file from now on, whose tag and number C gets
pub record HasFound (w : TableWorker) (held : Held) (out : CoreOutcome) : Type 0 where
  pub holds : w.held ≡ Some held
  pub label : HasLabel (its_pass w) (hold_in held) out.tag out.number

-- the worker holds nothing, and C gets neither a tag nor a number
pub record HasFoundNone (w : TableWorker) (out : CoreOutcome) : Type 0 where
  pub idle : w.held ≡ None
  pub no_tag : out.tag ≡ 0
  pub no_number : out.number ≡ 0

-- a removed file is retired: it is still used, or it is closed and C gets its tag
pub record RetiresAs (o : Opening) (v : PassView) (retired : Retired) (answer : ℤ) (tag : ℕ)
    (v' : PassView) : Type 0 where
  pub file : Option Identity
  pub its_answer : answer ≡ dropped_or IN_USE file
  pub its_tag : tag ≡ tag_of file
  pub retires : HasRetired o v retired file v'
