-- The workers of a table that was just opened.
use Rattle.std.specs.Prelude.{◌≡◌}
use Rattle.fx_server.specs.Words.{ℕ, List, All, None, map, length, Box, vacant, lasting_opening}
use Rattle.fx_server.specs.Words.{opening_of_table, first_passes, LastingPass, LastingTable, Shared}
use Rattle.fx_plain.specs.Contents.{Contents, state_of}
use Rattle.fx_server.specs.FileNumbers.{numbers_of_all}
use Rattle.fx_server.specs.Workers.{its_table, its_pass}
use Rattle.fx_server.specs.Worker.{TableWorker}

abbrev pub workers_in : List (Box TableWorker) → List TableWorker
workers_in list = map (λ (b : Box TableWorker). b.value) list

-- each worker holds nothing and shares this table; their passes are these, in this order; and each
-- has its first numbers
pub record AreDealt (shared : Shared) (passes : List LastingPass) (installing : ℕ)
    (list : List TableWorker) : Type 0 where
  pub shares : All (λ (w : TableWorker). w.shared ≡ shared) list
  pub idle : All (λ (w : TableWorker). w.held ≡ None) list
  pub order : map (λ (w : TableWorker). w.pass) list ≡ passes
  pub numbers : map (λ (w : TableWorker). w.numbers) list
      ≡ numbers_of_all installing (length list)

-- the workers share one table, which was opened with `slots` empty slots; each holds nothing; and
-- their passes are those of a new table in their order: the first `installing` install files, whose
-- first numbers are their places from 1
pub record AreOpened (slots workers installing : ℕ) (list : List TableWorker) : Type 0 where
  pub table : LastingTable
  pub contents : Contents
  pub opening : opening_of_table table ≡ lasting_opening contents workers
  pub empty : state_of contents ≡ vacant slots
  pub shares : All (λ (w : TableWorker). its_table w ≡ table) list
  pub idle : All (λ (w : TableWorker). w.held ≡ None) list
  pub passes : map its_pass list ≡ first_passes installing workers
  pub numbers : map (λ (w : TableWorker). w.numbers) list ≡ numbers_of_all installing workers
