use Rattle.check_flight.proofs.{◌-◌, arith, false≢true}
use Rattle.check_flight.proofs.Reasons.{explained_right}
use Rattle.check_flight.proofs.verdict.explained.Goals.{else-not-is_refuted-via-then-not-is_refuted+else-is_none}
use Rattle.check_flight.proofs.verdict.explained.Goals.{else-not-is_refuted-via-else-not-is_refuted}
use Rattle.check_flight.proofs.verdict.explained.Goals as goal

pub returns : goal.returns
returns c =
    let found = c.in_ok-reason.ensures in
    explained_right c.args.log.now c.args.slots.now c.args.count (c.args.count - 1) c.in_ok-reason.reason (omega arith) found.count found.steps found.refuted
    (λ none. elim c.else-not-is_refuted.branch [
      | else-not-is_refuted-via-then-not-is_refuted+else-is_none w ↦ absurd (false≢true (rw w.if-is_none.false at (rw none at w.is_none.ensures)))
      | else-not-is_refuted-via-else-not-is_refuted w ↦ c.requires w.if-not-is_refuted.false
    ])
