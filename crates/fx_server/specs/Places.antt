-- The places of C for the workers of a table.
use Rattle.std.specs.Prelude.{◌≡◌, ℕ, List, Option, Some, length, map}
use Rattle.fx_server.specs.Opened.{AreOpened}
use Rattle.fx_server.specs.Workers.{IsInRange}
use Rattle.fx_server.specs.declared.handle.WorkerPlace.{WorkerPlace}
use Rattle.fx_server.specs.Worker.{TableWorker}

abbrev pub workers_at : List WorkerPlace → List (Option TableWorker)
workers_at places = map (λ (p : WorkerPlace). p.worker) places

-- the numbers are in range, and each place has a worker: they are those of a table that was just
-- opened, in their order
pub record OpensAs (slots installing : ℕ) (places : List WorkerPlace) : Type 0 where
  pub list : List TableWorker
  pub placed : workers_at places ≡ map Some list
  pub opened : AreOpened slots (length places) installing list
  pub in_range : IsInRange slots (length places) installing
