use Rattle.check_certificate.proofs.Words.{IsForced, All-get_or}
use Rattle.check_certificate.proofs.known.are_apart.Goals as goal

pub returns-then-is_apart-clause-sound : goal.returns-then-is_apart-clause-sound
returns-then-is_apart-clause-sound c = λ _ b all.
    c.is_apart.ensures.sound c.if-is_apart.true b (All-get_or (IsForced b) c.args.known.now c.loop-order.order-index _ c.loop-order-test.true all)
