use Rattle.check_judge.proofs.{◌∙◌, ◌-◌, ap, sym, arith, is_lt, not_in_turn}
use Rattle.check_judge.proofs.recorded.wrong_order.Goals as goal

pub returns-then-not-is_lt : goal.returns-then-not-is_lt
returns-then-not-is_lt c = λ up distinct.
    let low = c.loop-i.auto.i in
    not_in_turn c.args.files.now (c.loop-i.i - 1) _ _ (omega (arith, low)) c.loop-i-test.true
    (ap is_lt (sym c.cmp.ensures) ∙ (sym c.is_lt.ensures ∙ c.if-not-is_lt.true)) up distinct
