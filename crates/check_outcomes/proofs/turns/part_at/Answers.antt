use Rattle.check_outcomes.proofs.{◌∙◌, sym, arith, all_asked}
use Rattle.check_outcomes.proofs.AllReports.{as_many, is_turn}
use Rattle.check_outcomes.proofs.turns.part_at.Goals as goal

pub loop-i-preserved : goal.loop-i-preserved
loop-i-preserved c =
    let sub = c.args.submission.now in
    let many = as_many (all_asked sub.requests.now) sub.chains.now sub.runs in
    rw c.part_of-own.ensures (is_turn sub c.args.numbers.now c.args.state.now (omega (arith, c.loop-i-test.true))
    (sym c.is_idle.ensures ∙ c.if-is_idle.false))
