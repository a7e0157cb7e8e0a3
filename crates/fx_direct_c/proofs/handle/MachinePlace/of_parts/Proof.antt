-- `of_parts` moves two fields, and the place owns what they own.
use Rattle.fx_box.proofs.Moves.{moves}
use Rattle.fx_direct_c.proofs.AsBox.{to_place}
use Rattle.fx_direct_c.specs.contracts.handle.MachinePlace.of_parts.Key.{name}
use Rattle.fx_direct_c.proofs.handle.MachinePlace.of_parts.Statement.{statement}
use Rattle.fx_direct_c.proofs.handle.MachinePlace.of_parts.Code as code

pub of_parts_spec : {M : Type 1} → statement M
of_parts_spec 𝓤 𝓛 𝓜 𝓡 wired = moves to_place 𝓛 𝓜 𝓡 name (code.unfolded 𝓤 𝓛.H 𝓜 𝓡 wired)
