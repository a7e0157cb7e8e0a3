use Rattle.check_certificate.proofs.Words.{◌≡◌, All, None, IsForced, under, arith, subst}
use Rattle.check_certificate.proofs.Supposing.{supposed}
use Rattle.check_certificate.proofs.beginning.LogBeginning.suppose.Goals as goal

pub returns-clause-sound : goal.returns-clause-sound
returns-clause-sound c =
    let none : c.args.known.supposed ≡ None = grind arith in
    let all : All (IsForced (under c.args.self.now None)) c.args.known.orders.items =
    subst (λ s. All (IsForced (under c.args.self.now s)) c.args.known.orders.items) none c.requires.orders in
    record {
      orders = rw c.in_ok-push.ensures.items (rw c.in_ok-orders.ensures.items (rw c.as_slice.ensures.value
          (supposed c.args.self.now c.args.order c.args.known.orders.items all)));
      before = all;
    }
