use Rattle.check_certificate.proofs.Words.{◌≡◌, false, take, shows_absent, list_any}
use Rattle.check_certificate.proofs.holding.is_known_absent.Given as goal

abbrev pub invariant-loop-order : goal.invariant-loop-order
invariant-loop-order l = list_any (λ order. shows_absent order l.h l.file) (take l.order-index l.known) ≡ false
