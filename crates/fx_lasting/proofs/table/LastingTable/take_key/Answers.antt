use Rattle.fx_lasting.proofs.{subst, inr, Start, Result, Hold, KeyFault, LookedByKey, view_of}
use Rattle.fx_lasting.proofs.slot_lemmas.HeldTries.{left_alone}
use Rattle.fx_lasting.proofs.table.LastingTable.take_key.Goals as goal

pub returns-clause-taken : goal.returns-clause-taken
returns-clause-taken c =
    let k : Start = c.args.self.now.table.shared.key in
    let p = c.args.pass.now in
    let b = c.look_key-found.new.pass in
    let freed = c.look_key-found.result.freed in
    let other = c.look_key-found.result.released in
    let look = subst (λ (r : Result Hold KeyFault). LookedByKey k (view_of p) c.args.key r freed other (view_of b)) c.in-Ok.is c.look_key-found.ensures.looked in
    let kept = c.in-Err-take_held.ensures.taken in
    let ends = c.release-released.ensures in
    inr (left_alone k p b c.take_held.new.pass c.release-released.new.pass c.args.key c.in-Ok.hold freed other c.release-released.result look
    kept.0 kept.1 c.in-Err-take_held.miss kept.2 kept.3 c.in-Err-take_held.ensures.tries ends.released c.look_key-found.ensures.met ends.met c.fault_of.result c.fault_of.ensures)
