use Rattle.check_certificate.proofs.Words.{IsForced, All-get_or}
use Rattle.check_certificate.proofs.holding.is_known_absent.Goals as goal

pub returns-then-shows_absent-clause-sound : goal.returns-then-shows_absent-clause-sound
returns-then-shows_absent-clause-sound c = λ _ b all.
    c.shows_absent.ensures.sound c.if-shows_absent.true b (All-get_or (IsForced b) c.args.known.now c.loop-order.order-index _ c.loop-order-test.true all)
