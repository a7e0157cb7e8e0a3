use denote.RattleType.{RattleType}
use denote.Param.Send.{IsSend}
use Rattle.fx_seen.specs.contracts.Seen.{the_row}
use Rattle.fx_seen.proofs.Ghost.{seen_keyless}

pub send : (V : RattleType) → IsSend (the_row V)
send V = record { owned = λ d vs. ((λ vss. (tt, ((λ uss. (tt, tt)), tt))), seen_keyless V.coded.code d.table_id d.id d.view); leaving = λ k f vs. tt }
