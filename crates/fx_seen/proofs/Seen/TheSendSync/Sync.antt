use denote.RattleType.{RattleType}
use denote.Param.Send.{IsSync, sendable}
use denote.Struct.Struct.{Struct}
use denote.Struct.Owning.{shape}
use Rattle.fx_seen.specs.contracts.Seen.{the_row, the_type}
use Rattle.fx_seen.proofs.Ghost.{seen_keyless}

pub sync : (V : RattleType) → IsSync (the_row V)
sync V = let fields : IsSync (Struct (shape (the_type V))) = search sendable depth 20 in
    record { shared = λ d b o ν. (fields.shared (tt, tt) b o ν, seen_keyless V.coded.code d.table_id d.id d.view) }
