use Rattle.check_certificate.proofs.Words.{◌≡◌, false, take, is_apart, list_any}
use Rattle.check_certificate.proofs.known.are_apart.Given as goal

abbrev pub invariant-loop-order : goal.invariant-loop-order
invariant-loop-order l = list_any (λ order. is_apart order l.one l.other) (take l.order-index l.known) ≡ false
