use Rattle.fx_judge.proofs.LogVerdicts.{judged, not_read}
use Rattle.fx_judge.proofs.flights.judge_log.Goals as goal

pub returns : goal.returns
returns c =
    let read = c.in-Ok.ensures in let verdict = c.in-Ok-judge_events.ensures in let same = c.deref.ensures.value in
    judged c.args.whole _ c.in-Ok.read read.read read.slots c.in-Ok-judge_events.verdict c.number.ensures (rw same at verdict.fault)
    (rw same at verdict.legal) (rw same at verdict.not_legal) (rw same at verdict.reason)

pub returns-in-Err : goal.returns-in-Err
returns-in-Err c = not_read c.in-Err.ensures.read c.unread.ensures
