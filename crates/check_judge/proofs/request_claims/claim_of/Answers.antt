use Rattle.check_judge.proofs.{◌≡◌, of_z, rules, to_z, w32, look_failed, take_recorded}
use Rattle.check_judge.proofs.request_claims.claim_of.Goals as goal

pub claim_by-requires-then-c-lt0 : goal.claim_by-requires-then-c-lt0
claim_by-requires-then-c-lt0 c =
    let it = c.args.it.now in
    let res = it.c.now.res in
    let read : to_z w32 (of_z w32 res) ≡ res = search rules in
    look_failed it (rw c.in-Look.is at c.requires) (rw read at c.if-c-lt0.true)

pub claim_by-requires-in-Take : goal.claim_by-requires-in-Take
claim_by-requires-in-Take c =
    let it = c.args.it.now in
    let res = it.c.now.res in
    let read : to_z w32 (of_z w32 res) ≡ res = search rules in
    take_recorded it (rw c.in-Take.is at c.requires) (rw read at c.if-c-lt0-2.false) _
