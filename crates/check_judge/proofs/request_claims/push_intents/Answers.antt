use Rattle.check_judge.proofs.{operation_of, Some, arith, length, slice_get, sym, ◌≡◌, ◌≤◌, take_all, IsMade, err_from_is_err_and, as_many_intents}
use Rattle.check_judge.proofs.{made_at, decided, intents, all_made}
use Rattle.check_judge.proofs.RequestClaims.{one_more}
use Rattle.check_judge.proofs.request_claims.push_intents.Goals.{In-Some}
use Rattle.check_judge.proofs.request_claims.push_intents.Goals as goal

-- the next intent
got : (c : In-Some) → slice_get (intents c.args.it.now) c.loop-made.made ≡ Some c.in-Some.intent
got c = sym (rw (c.in-Some.is, c.args.it.now.accepted) at c.intent_by.ensures)

pub claim_of-requires : goal.claim_of-requires
claim_of-requires c =
    let it = c.args.it.now in
    decided it.setting.catalogue.now it.place it.entry (operation_of it.request.now.op) c.loop-made.made (got (goal.at.claim_of-requires c).In-Some)

pub loop-made-preserved : goal.loop-made-preserved
loop-made-preserved c =
    let it = c.args.it.now in
    rw c.in_ok-push.ensures.items
    (one_more (IsMade it) it.setting.closes.now _ _ (intents it) c.loop-made.made _ (got (goal.at.loop-made-preserved c).In-Some)
    c.loop-made.invariant c.in_ok-claim_of.ensures)

pub returns-in_err-claim_of : goal.returns-in_err-claim_of
returns-in_err-claim_of c =
    let it = c.args.it.now in
    let p = err_from_is_err_and c.from_residual-in_err-claim_of.result c.from_residual-in_err-claim_of.ensures.1 in
    rw (p.1, p.2) (λ refutes accesses done.
    let a = made_at (IsMade it) (intents it) c.loop-made.made accesses (got (goal.at.returns-in_err-claim_of c).In-Some) (all_made it accesses done) in
    c.in_err-claim_of.ensures refutes a.0 a.1)

pub returns : goal.returns
returns c =
    let it = c.args.it.now in
    let many : length (intents it) ≤ c.loop-made.made = omega (arith, as_many_intents it.place it.entry (operation_of it.request.now.op)) in
    λ accesses done. c.loop-made.invariant accesses (rw (take_all c.loop-made.made (intents it) many) (all_made it accesses done))
