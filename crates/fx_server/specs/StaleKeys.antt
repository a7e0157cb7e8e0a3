-- The answer `STALE` of a call by key: the slot had another file than that of the key at a moment
-- of the call.
use Rattle.std.specs.Prelude.{◌≡◌, ◌≢◌}
use Rattle.fx_server.specs.Words.{ℕ, ℤ, Option, Some, File, IsKeyOf, Key, CoreOutcome, STALE}
use Rattle.fx_lasting.specs.slots.ByNode.{WasSo}
use Rattle.fx_server.specs.ByKey.{GetsAs, RemovesAs, ReplacesAs}
use Rattle.fx_server.specs.Workers.{its_pass, its_start}
use Rattle.fx_server.specs.Worker.{TableWorker}

-- there is a file, and the key names another one or none
abbrev pub IsAnother : Key → Option File → Type 0
IsAnother key there = (f : File) × (there ≡ Some f)
    × (IsKeyOf key f → (g : File) × IsKeyOf key g × (g ≢ f))

-- at a moment of a call of the worker the slot had another file than that of the key
pub record HadAnother (w : TableWorker) (key : Key) (w' : TableWorker) : Type 0 where
  pub was : WasSo (its_start w) key.slot (IsAnother key) (its_pass w).front (its_pass w').front

-- a call by key answers `STALE` only if the slot had another file at a moment of the call
pub record StaleKeysHadAnother : Type 0 where
  pub gets : (w w' : TableWorker) (key : Key) (answer : ℤ) (out : CoreOutcome)
      → GetsAs w key answer out w' → answer ≡ STALE → HadAnother w key w'
  pub removes : (w w' : TableWorker) (key : Key) (answer : ℤ) (out : CoreOutcome)
      → RemovesAs w key answer out w' → answer ≡ STALE → HadAnother w key w'
  pub replaces : (w w' : TableWorker) (key : Key) (tag : ℕ) (answer : ℤ) (out : CoreOutcome)
      → ReplacesAs w key tag answer out w' → answer ≡ STALE → HadAnother w key w'
