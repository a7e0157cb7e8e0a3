use Rattle.check_judge.proofs.{AreAppended, Access, List, take, AllZip, IsMade, intents}
use Rattle.check_judge.proofs.request_claims.push_intents.Given as goal

-- the claims so far are those of the accesses so far
abbrev pub invariant-loop-made : goal.invariant-loop-made
invariant-loop-made l = (accesses : List Access) → AllZip (IsMade l.it) (take l.made (intents l.it)) accesses
    → AreAppended l.it.setting.closes.now l.fn.claims.items l.claims.items accesses
