-- Files, and whether the closes have them.
use Rattle.std.specs.Prelude.{◌≡◌, ◌↔◌}
use Rattle.check_search.specs.Words.{List, IsTrue, Contains, Resident}
use Rattle.fx_base.specs.Identity.{Identity}
use Rattle.fx_base.specs.declared.open_file.Closed.{Closed}

-- a file, and whether the closes have it
pub record IsResident (closes : List Closed) (file : Identity) (resident : Resident) : Type 0 where
  pub same : resident.file ≡ file
  pub leaves : IsTrue resident.leaves ↔ Contains closes file
