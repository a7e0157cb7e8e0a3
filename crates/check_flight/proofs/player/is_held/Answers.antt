use Rattle.check_flight.proofs.{ap, arith, ◌∙◌}
use Rattle.check_flight.proofs.player.is_held.Goals as goal

pub returns : goal.returns
returns c = λ hold (k, low, is) same. absurd (c.loop-hold.invariant k hold (omega (arith, low, c.loop-hold-test.false)) (ap (λ it. it.file) is ∙ same))
