-- `as_mut` lends the worker at the pointer, and the handle follows it.
use Rattle.fx_server.proofs.Words.{lends}
use Rattle.fx_server.proofs.AsBox.{lender}
use Rattle.fx_server.specs.contracts.handle.Handle.as_mut.Key.{name}
use Rattle.fx_server.proofs.handle.Handle.as_mut.Statement.{statement}
use Rattle.fx_server.proofs.handle.Handle.as_mut.Code as code

pub as_mut_spec : {M : Type 1} → statement M
as_mut_spec 𝓤 𝓛 𝓜 𝓡 wired = lends lender 𝓛 𝓜 𝓡 name (code.unfolded 𝓤 𝓛.H 𝓜 𝓡 wired)
