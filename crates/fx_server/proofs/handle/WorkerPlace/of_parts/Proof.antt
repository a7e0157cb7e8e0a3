-- `of_parts` moves two fields, and the place owns what they own.
use Rattle.fx_server.proofs.Words.{moves}
use Rattle.fx_server.proofs.AsBox.{to_place}
use Rattle.fx_server.specs.contracts.handle.WorkerPlace.of_parts.Key.{name}
use Rattle.fx_server.proofs.handle.WorkerPlace.of_parts.Statement.{statement}
use Rattle.fx_server.proofs.handle.WorkerPlace.of_parts.Code as code

pub of_parts_spec : {M : Type 1} → statement M
of_parts_spec 𝓤 𝓛 𝓜 𝓡 wired = moves to_place 𝓛 𝓜 𝓡 name (code.unfolded 𝓤 𝓛.H 𝓜 𝓡 wired)
