use Rattle.check_certificate.proofs.Words.{◌≡◌, false, take, says, list_any}
use Rattle.check_certificate.proofs.known.is_known.Given as goal

abbrev pub invariant-loop-order : goal.invariant-loop-order
invariant-loop-order l = list_any (λ order. says order l.from l.to) (take l.order-index l.known) ≡ false
