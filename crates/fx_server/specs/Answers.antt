-- The records that the exports ensure: what each number that C gets means, and what is written to
-- `out`. The worker stays in its table.
use Rattle.std.specs.Prelude.{◌≡◌, ◌⊎◌}
use Rattle.fx_server.specs.Words.{ℕ, ℤ, pos, Bool, true, false, Option, Some, None, Result, Ok, Err}
use Rattle.fx_server.specs.Words.{Identity, LookedUp, Placed, Released, Taken, Opening, PassView}
use Rattle.fx_server.specs.Words.{Hold, Retired, CoreOutcome, NO_OUTCOME, AGAIN, DONE, EMPTY, FULL}
use Rattle.fx_server.specs.Words.{IDLE, NO_SLOT, STALE, Held}
use Rattle.fx_table.specs.declared.values.Empty.{Empty as NoFile}
use Rattle.fx_table.specs.declared.values.LookFault.{LookFault}
use Rattle.fx_lasting.specs.Laws.{IsInRange as IsAllocated}
use Rattle.fx_lasting.specs.declared.answers.FoundSlot.{FoundSlot}
use Rattle.fx_lasting.specs.declared.answers.PutEmpty.{PutEmpty}
use Rattle.fx_lasting.specs.declared.tried.TriedPut.{TriedPut}
use Rattle.fx_lasting.specs.range.Tries.{TriedSo}
use Rattle.fx_lasting.specs.slots.AtEmpty.{GivesUpFor, HasPutEmpty, HasSearched}
use Rattle.fx_lasting.specs.slots.Current.{ChecksCurrent}
use Rattle.fx_server.specs.FileNumbers.{after_keep, without_kept}
use Rattle.fx_server.specs.Files.{file_with}
use Rattle.fx_server.specs.Outcomes.{LastUses, dropped_or, tag_of}
use Rattle.fx_server.specs.Workers.{DrawsNone, HasFound, HasFoundNone, HasNoSlot, IsBusy, IsRefused}
use Rattle.fx_server.specs.Workers.{IsRefusedAt, RetiresAs, UsesNumber, hold_in, its_opening}
use Rattle.fx_server.specs.Workers.{its_pass, its_start}
use Rattle.fx_server.specs.Worker.{TableWorker}
use Rattle.fx_table.specs.declared.values.LookFault.TheVariants as fault
use Rattle.fx_lasting.specs.declared.answers.FoundSlot.TheVariants as found
use Rattle.fx_lasting.specs.declared.answers.PutEmpty.TheVariants as empty
use Rattle.fx_lasting.specs.declared.tried.TriedPut.TheVariants as tried

-- the worker's pass looked a slot of the table up
pub record LooksAt (w : TableWorker) (slot : ℕ) (found : Result Hold LookFault) (out : CoreOutcome)
    (w' : TableWorker) : Type 0 where
  pub freed : Option Identity
  pub tags : LastUses out freed None
  pub looked : LookedUp (its_opening w) (its_pass w) slot found freed (its_pass w')

-- a look-up at a slot
pub record GetsAtAs (w : TableWorker) (slot : ℕ) (answer : ℤ) (out : CoreOutcome)
    (w' : TableWorker) : Type 0 where
  pub table : w'.shared ≡ w.shared
  pub numbers : DrawsNone w w'
  pub looked : ((held : Held) × (answer ≡ DONE) × HasFound w' held out
      × LooksAt w slot (Ok (hold_in held)) out w')
      ⊎ ((answer ≡ EMPTY) × HasFoundNone w' out × LooksAt w slot (Err fault.Empty) out w')
      ⊎ ((w' ≡ w) × (out ≡ NO_OUTCOME) × (HasNoSlot w slot answer ⊎ IsBusy w answer))

-- a release: the file came out, and its tag is written, or it is still used; or the worker held
-- none
pub record ReleasesAs (w : TableWorker) (answer : ℤ) (dropped : ℕ) (w' : TableWorker)
    : Type 0 where
  pub table : w'.shared ≡ w.shared
  pub numbers : DrawsNone w w'
  pub released : ((held : Held) × (file : Option Identity) × (w.held ≡ Some held)
      × (w'.held ≡ None) × (answer ≡ dropped_or DONE file) × (dropped ≡ tag_of file)
      × Released (its_opening w) (its_pass w) (hold_in held) file (its_pass w'))
      ⊎ ((answer ≡ IDLE) × (dropped ≡ 0) × (w.held ≡ None) × (w' ≡ w))

-- the number of a check: 1 if the slot has the file that the worker holds, and else 0
abbrev pub current_code : Bool → ℤ
current_code true = pos 1
current_code false = pos 0

-- the pass checked whether the slot has the file that it holds
pub record ChecksItsFile (w : TableWorker) (slot : ℕ) (answer : ℤ) (w' : TableWorker)
    : Type 0 where
  pub current : Bool
  pub its_answer : answer ≡ current_code current
  pub checks : ChecksCurrent (its_opening w) (its_pass w) slot current (its_pass w')

-- a check whether a slot has the file that the worker holds
pub record ChecksCurrentAs (w : TableWorker) (slot : ℕ) (answer : ℤ) (w' : TableWorker)
    : Type 0 where
  pub table : w'.shared ≡ w.shared
  pub numbers : DrawsNone w w'
  pub held : w'.held ≡ w.held
  pub checked : ((held : Held) × (w.held ≡ Some held)
      × (ChecksItsFile w slot answer w' ⊎ ((w' ≡ w) × HasNoSlot w slot answer)))
      ⊎ ((w' ≡ w) × (answer ≡ IDLE) × (w.held ≡ None))

-- a file that was at a slot is retired, if there was one
abbrev pub RetiresAny : Opening → PassView → Option Retired → (answer : ℤ) → (tag : ℕ) → PassView
    → Type 0
RetiresAny o v None answer tag v' = (answer ≡ DONE) × (tag ≡ 0) × (v' ≡ v)
RetiresAny o v (Some retired) answer tag v' = RetiresAs o v retired answer tag v'

-- a file with this tag and the worker's next number is put at a slot, and what was there is retired
pub record PutsAt (w : TableWorker) (slot tag : ℕ) (answer : ℤ) (out : CoreOutcome)
    (w' : TableWorker) : Type 0 where
  pub uses : UsesNumber w out.number w'
  pub tags : LastUses out None None
  pub retired : Option Retired
  pub between : PassView
  pub placed : Placed (its_opening w) (its_pass w) slot (file_with tag w.numbers.next) retired
      between
  pub retires : RetiresAny (its_opening w) between retired answer out.tag (its_pass w')

-- an installation at a slot
pub record ReplacesAtAs (w : TableWorker) (slot tag : ℕ) (answer : ℤ) (out : CoreOutcome)
    (w' : TableWorker) : Type 0 where
  pub table : w'.shared ≡ w.shared
  pub placed : PutsAt w slot tag answer out w'
      ⊎ ((w' ≡ w) × (out ≡ NO_OUTCOME) × IsRefusedAt w slot answer)

-- the file of a slot is taken out and retired
pub record TakesFrom (w : TableWorker) (slot : ℕ) (answer : ℤ) (out : CoreOutcome)
    (w' : TableWorker) : Type 0 where
  pub no_number : out.number ≡ 0
  pub tags : LastUses out None None
  pub retired : Retired
  pub between : PassView
  pub taken : Taken (its_opening w) (its_pass w) slot (Ok retired) between
  pub retires : RetiresAs (its_opening w) between retired answer out.tag (its_pass w')

-- a removal at a slot
pub record RemovesAtAs (w : TableWorker) (slot : ℕ) (answer : ℤ) (out : CoreOutcome)
    (w' : TableWorker) : Type 0 where
  pub table : w'.shared ≡ w.shared
  pub numbers : DrawsNone w w'
  pub removed : TakesFrom w slot answer out w'
      ⊎ ((answer ≡ EMPTY) × (out ≡ NO_OUTCOME) × ((empty : NoFile)
      × Taken (its_opening w) (its_pass w) slot (Err empty) (its_pass w')))
      ⊎ ((w' ≡ w) × (out ≡ NO_OUTCOME) × IsRefusedAt w slot answer)

-- one round of an installation at any slot: its number, which is the slot or a reason, and the
-- number of the file
abbrev pub tried_code : TriedPut → ℤ
tried_code (tried.At slot) = pos slot
tried_code (tried.Full file) = FULL
tried_code (tried.Again file) = AGAIN

abbrev pub UsesIfTried : TableWorker → TriedPut → ℕ → TableWorker → Type 0
UsesIfTried w (tried.At slot) number w' = UsesNumber w number w'
UsesIfTried w _ number w' = (number ≡ 0) × DrawsNone w w'

-- what the call of the table found
pub record TriesAny (w : TableWorker) (tag : ℕ) (answer : ℤ) (number : ℕ) (w' : TableWorker)
    : Type 0 where
  pub result : TriedPut
  pub its_answer : answer ≡ tried_code result
  pub uses : UsesIfTried w result number w'
  pub tries : TriedSo (its_opening w) (its_pass w) (file_with tag w.numbers.next) result
      (its_pass w')
  pub short : GivesUpFor (its_start w) w.pass result w'.pass

pub record InsertsAs (w : TableWorker) (tag : ℕ) (answer : ℤ) (number : ℕ) (w' : TableWorker)
    : Type 0 where
  pub table : w'.shared ≡ w.shared
  pub allocated : TriesAny w tag answer number w'
      ⊎ ((w' ≡ w) × (number ≡ 0) × IsRefused w answer)

-- a search for an empty slot: its number, and the number that the worker keeps for a file there
abbrev pub found_code : FoundSlot → ℤ
found_code (found.At slot) = pos slot
found_code found.Full = FULL
found_code found.Again = AGAIN

abbrev pub KeepsIfFound : TableWorker → FoundSlot → ℕ → TableWorker → Type 0
KeepsIfFound w (found.At slot) number w' =
    (number ≡ w.numbers.next) × (w'.numbers ≡ after_keep w.numbers)
KeepsIfFound w _ number w' = (number ≡ 0) × DrawsNone w w'

pub record Searches (w : TableWorker) (answer : ℤ) (number : ℕ) (w' : TableWorker)
    : Type 0 where
  pub result : FoundSlot
  pub its_answer : answer ≡ found_code result
  pub keeps : KeepsIfFound w result number w'
  pub searched : HasSearched (its_start w) w.pass result w'.pass

pub record FindsAs (w : TableWorker) (answer : ℤ) (number : ℕ) (w' : TableWorker) : Type 0 where
  pub table : w'.shared ≡ w.shared
  pub found : Searches w answer number w' ⊎ ((w' ≡ w) × (number ≡ 0) × IsRefused w answer)

-- an installation at an empty slot, with the number that the worker kept
abbrev pub empty_code : PutEmpty → ℤ
empty_code empty.Installed = DONE
empty_code (empty.Stale file) = STALE
empty_code (empty.Again file) = AGAIN

pub record TriesEmpty (w : TableWorker) (slot tag : ℕ) (answer : ℤ) (w' : TableWorker)
    : Type 0 where
  pub result : PutEmpty
  pub its_answer : answer ≡ empty_code result
  pub tries : HasPutEmpty (its_start w) w.pass slot (file_with tag w.numbers.kept) result w'.pass

-- the worker that keeps no number
abbrev pub having_spent : TableWorker → TableWorker
having_spent w = record w { numbers = without_kept w.numbers }

-- the slot isn't in the allocation range
abbrev pub HasNoSuchSlot : TableWorker → ℕ → ℤ → Type 0
HasNoSuchSlot w slot answer = (answer ≡ NO_SLOT) × (IsAllocated (its_start w) slot → ⊥)

pub record PutsEmptyAs (w : TableWorker) (slot tag : ℕ) (answer : ℤ) (w' : TableWorker)
    : Type 0 where
  pub table : w'.shared ≡ w.shared
  pub numbers : w'.numbers ≡ without_kept w.numbers
  pub placed : TriesEmpty w slot tag answer w'
      ⊎ ((w' ≡ having_spent w) × (HasNoSuchSlot w slot answer ⊎ IsRefused w answer))
