-- The numbers of the files that workers install: no two files of a history have one.
use Rattle.std.specs.Prelude.{◌≡◌, ◌≢◌, ◌⊎◌, ◌+◌, ◌<◌, ◌≤◌}
use Rattle.fx_server.specs.Words.{ℕ, List, length, slice_index_or, part_of_pass, IsInstalled, Event}
use Rattle.fx_server.specs.Words.{File, number_of_mark, MOST_INSTALLING}
use Rattle.fx_server.specs.EndsOfKeys.{HaveTheirOwnKeys}
use Rattle.fx_server.specs.FileNumbers.{after_draws, first_numbers, number_drawn, without_kept}
use Rattle.fx_server.specs.Opened.{AreOpened}
use Rattle.fx_server.specs.Workers.{its_pass}
use Rattle.fx_server.specs.Worker.{TableWorker}

abbrev pub number_of_file : File → ℕ
number_of_file f = number_of_mark f.identity.mark

-- the number is 0, or the worker at this place drew it before `draws`
abbrev pub WasDrawn : (installing place draws number : ℕ) → Type 0
WasDrawn installing place draws number = (number ≡ 0) ⊎ ((1 ≤ place)
    × ((draw : ℕ) × (draw < draws) × (number ≡ number_drawn installing place draw)))

-- the files that these events install have numbers which the worker at this place drew, each but 0
-- for one file
pub record HaveDrawnNumbers (installing place draws : ℕ) (own : List Event) : Type 0 where
  pub drawn : (f : File) → IsInstalled own f
      → WasDrawn installing place draws (number_of_file f)
  pub apart : HaveTheirOwnKeys own

-- No two files of a history have one number but 0, if each pass installs files with numbers that
-- the worker at its place draws, each for one file
abbrev pub FilesHaveTheirOwnNumbers : Type 0
FilesHaveTheirOwnNumbers = (installing : ℕ) (h : List Event) → installing ≤ MOST_INSTALLING
    → ((pass : ℕ) → (draws : ℕ) × HaveDrawnNumbers installing pass draws (part_of_pass pass h))
    → HaveTheirOwnKeys h

-- the worker at a place has installed files with numbers that it drew, each but 0 for one file, and
-- keeps one of which no file was installed
pub record DrawsItsNumbers (installing place : ℕ) (w : TableWorker) : Type 0 where
  pub draws : ℕ
  pub numbers : without_kept w.numbers ≡ after_draws (first_numbers installing place) draws
  pub files : HaveDrawnNumbers installing place draws (its_pass w).own
  pub kept : WasDrawn installing place draws w.numbers.kept
  pub unused : (f : File) → IsInstalled (its_pass w).own f → w.numbers.kept ≢ 0
      → number_of_file f ≢ w.numbers.kept

-- a call of this worker keeps that
abbrev pub KeepsItsNumbers : TableWorker → TableWorker → Type 0
KeepsItsNumbers w w' = (installing place : ℕ) → installing ≤ MOST_INSTALLING → 1 ≤ place
    → DrawsItsNumbers installing place w → DrawsItsNumbers installing place w'

-- a worker of a table that was just opened has installed nothing, and keeps no number
abbrev pub OpenedWorkersDrawTheirNumbers : Type 0
OpenedWorkersDrawTheirNumbers = (slots workers installing : ℕ) (list : List TableWorker)
    → AreOpened slots workers installing list → (place : ℕ) (other : TableWorker)
    → place < length list
    → DrawsItsNumbers installing (1 + place) (slice_index_or list place other)
