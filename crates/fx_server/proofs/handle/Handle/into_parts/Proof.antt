-- `into_parts` moves two fields, and what they own goes with them.
use Rattle.fx_server.proofs.Words.{moves}
use Rattle.fx_server.proofs.AsBox.{to_parts}
use Rattle.fx_server.specs.contracts.handle.Handle.into_parts.Key.{name}
use Rattle.fx_server.proofs.handle.Handle.into_parts.Statement.{statement}
use Rattle.fx_server.proofs.handle.Handle.into_parts.Code as code

pub into_parts_spec : {M : Type 1} → statement M
into_parts_spec 𝓤 𝓛 𝓜 𝓡 wired = moves to_parts 𝓛 𝓜 𝓡 name (code.unfolded 𝓤 𝓛.H 𝓜 𝓡 wired)
