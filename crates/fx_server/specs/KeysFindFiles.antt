-- A key finds its file: the one whose installation returned the key, or none.
use Rattle.std.specs.Prelude.{◌≡◌, ◌⊎◌, ◌<◌, ◌≤◌, ◌∷◌, ℕ, ℤ, pos, List, [], length, slice_index_or}
use Rattle.fx_server.specs.Words.{◌▷▷◌, IsLegal, part_of_pass, IsInstalled, Event, File, start_of}
use Rattle.fx_server.specs.Words.{state_at, Holding, Hold, opening_of_table, Key, MOST_INSTALLING}
use Rattle.fx_server.specs.Words.{CoreOutcome, DONE}
use Rattle.fx_lasting.specs.WholeHistory.{IsPartOf}
use Rattle.fx_server.specs.Answers.{FindsAs, GetsAtAs, InsertsAs, PutsEmptyAs, ReleasesAs}
use Rattle.fx_server.specs.Answers.{RemovesAtAs, ReplacesAtAs, ChecksCurrentAs}
use Rattle.fx_server.specs.ByKey.{GetsAs, RemovesAs, ReplacesAs, key_of}
use Rattle.fx_server.specs.EndsOfKeys.{HaveTheirOwnKeys}
use Rattle.fx_server.specs.FilesNumbers.{KeepsItsNumbers}
use Rattle.fx_server.specs.Opened.{AreOpened}
use Rattle.fx_server.specs.Outcomes.{IsDone}
use Rattle.fx_server.specs.Workers.{its_pass}
use Rattle.fx_server.specs.Worker.{TableWorker}

-- a call of one of the exports, by a worker that is `w` before it and `w'` after it
pub data IsExportCall (w w' : TableWorker) : Type 0 where
  get_at : (slot : ℕ) (answer : ℤ) (out : CoreOutcome) → GetsAtAs w slot answer out w'
      → IsExportCall w w'
  get : (key : Key) (answer : ℤ) (out : CoreOutcome) → GetsAs w key answer out w'
      → IsExportCall w w'
  release : (answer : ℤ) (dropped : ℕ) → ReleasesAs w answer dropped w' → IsExportCall w w'
  is_current : (slot : ℕ) (answer : ℤ) → ChecksCurrentAs w slot answer w' → IsExportCall w w'
  insert : (tag : ℕ) (answer : ℤ) (number : ℕ) → InsertsAs w tag answer number w'
      → IsExportCall w w'
  replace_at : (slot tag : ℕ) (answer : ℤ) (out : CoreOutcome)
      → ReplacesAtAs w slot tag answer out w' → IsExportCall w w'
  replace : (key : Key) (tag : ℕ) (answer : ℤ) (out : CoreOutcome)
      → ReplacesAs w key tag answer out w' → IsExportCall w w'
  remove_at : (slot : ℕ) (answer : ℤ) (out : CoreOutcome) → RemovesAtAs w slot answer out w'
      → IsExportCall w w'
  remove : (key : Key) (answer : ℤ) (out : CoreOutcome) → RemovesAs w key answer out w'
      → IsExportCall w w'
  find : (answer : ℤ) (number : ℕ) → FindsAs w answer number w' → IsExportCall w w'
  put_empty : (slot tag : ℕ) (answer : ℤ) → PutsEmptyAs w slot tag answer w' → IsExportCall w w'

-- each export keeps the numbers of its worker's files
abbrev pub ExportsKeepNumbers : Type 0
ExportsKeepNumbers = (w w' : TableWorker) → IsExportCall w w' → KeepsItsNumbers w w'

-- calls of one worker, one after another
abbrev pub AreExportCalls : TableWorker → List TableWorker → TableWorker → Type 0
AreExportCalls first [] last = last ≡ first
AreExportCalls first (next ∷ more) last = IsExportCall first next × AreExportCalls next more last

abbrev pub ByCalls : TableWorker → TableWorker → Type 0
ByCalls first last = (between : List TableWorker) × AreExportCalls first between last

-- A table that was opened with empty slots, and its workers, by their places from 0, after the
-- calls that each has made until now. One legal history is that of all passes, as
-- `fx_lasting::laws::has_one_history` says
pub record IsInUse (slots installing : ℕ) (opened : List TableWorker) (now : ℕ → TableWorker)
    (h : List Event) : Type 0 where
  pub opens : AreOpened slots (length opened) installing opened
  pub few : installing ≤ MOST_INSTALLING
  pub calls : (place : ℕ) → place < length opened
      → ByCalls (slice_index_or opened place (now place)) (now place)
  pub legal : IsLegal (start_of (opening_of_table opens.table)) h
      (state_at (opening_of_table opens.table) h)
  pub parts : (place : ℕ) → place < length opened → IsPartOf (its_pass (now place)) h
  pub authors : (pass : ℕ) → (pass ≡ 0) ⊎ (length opened < pass) → part_of_pass pass h ≡ []

-- no two files of such a history have one number but 0
abbrev pub FilesInUseHaveTheirNumbers : Type 0
FilesInUseHaveTheirNumbers = (slots installing : ℕ) (opened : List TableWorker)
    (now : ℕ → TableWorker) (h : List Event)
    → IsInUse slots installing opened now h → HaveTheirOwnKeys h

-- a call of one of these workers, before now
pub record HasMade (opened : List TableWorker) (now : ℕ → TableWorker) (w w' : TableWorker)
    : Type 0 where
  pub place : ℕ
  pub low : place < length opened
  pub before : ByCalls (slice_index_or opened place (now place)) w
  pub call : IsExportCall w w'
  pub after : ByCalls w' (now place)

-- a call installed a file with this tag, and returned the key: its slot, and the number that the
-- call returned, or for `put_empty` the one that `find` returned
pub data ReturnsKey (w : TableWorker) (tag : ℕ) (key : Key) (w' : TableWorker) : Type 0 where
  inserts : (answer : ℤ) (number : ℕ) → InsertsAs w tag answer number w'
      → answer ≡ pos key.slot → number ≡ key.number → ReturnsKey w tag key w'
  replaces_at : (answer : ℤ) (out : CoreOutcome) → ReplacesAtAs w key.slot tag answer out w'
      → IsDone answer → out.number ≡ key.number → ReturnsKey w tag key w'
  replaces : (old : ℕ) (answer : ℤ) (out : CoreOutcome)
      → ReplacesAs w (key_of key.slot old) tag answer out w'
      → IsDone answer → out.number ≡ key.number → ReturnsKey w tag key w'
  puts_empty : (answer : ℤ) → PutsEmptyAs w key.slot tag answer w' → IsDone answer
      → w.numbers.kept ≡ key.number → ReturnsKey w tag key w'

-- the file was installed by the call
pub record WasInstalledBy (w w' : TableWorker) (f : File) : Type 0 where
  pub since : List Event
  pub made : (its_pass w').own ≡ (its_pass w).own ▷▷ since
  pub there : IsInstalled since f

-- the worker `u'` holds the file that the call from `w` to `w'` installed, and got its tag
pub record FindsItsFile (w w' : TableWorker) (tag : ℕ) (u' : TableWorker) (out : CoreOutcome)
    : Type 0 where
  pub file : File
  pub hold : Hold
  pub installed : WasInstalledBy w w' file
  pub holds : (its_pass u').doing ≡ Holding file hold
  pub its_tag : out.tag ≡ tag

-- A look-up by a key that finds a file finds the one whose installation returned the key, with its
-- tag, whichever workers of the table made the two calls
abbrev pub AKeyFindsItsFile : Type 0
AKeyFindsItsFile = (slots installing : ℕ) (opened : List TableWorker) (now : ℕ → TableWorker)
    (h : List Event) (w w' u u' : TableWorker) (tag : ℕ) (key : Key) (answer : ℤ)
    (out : CoreOutcome) → IsInUse slots installing opened now h
    → HasMade opened now w w' → ReturnsKey w tag key w'
    → HasMade opened now u u' → GetsAs u key answer out u' → answer ≡ DONE
    → FindsItsFile w w' tag u' out
