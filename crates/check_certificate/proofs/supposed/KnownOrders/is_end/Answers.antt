use Rattle.check_certificate.proofs.Words.{◌≡◌, All, None, IsForced, under, arith, subst}
use Rattle.check_certificate.proofs.supposed.KnownOrders.is_end.Goals as goal

pub returns-then-is_none-clause-sound : goal.returns-then-is_none-clause-sound
returns-then-is_none-clause-sound c = λ so b known.
    let none : c.args.self.now.supposed ≡ None = grind arith in
    let all : All (IsForced (under b None)) c.args.self.now.orders.items =
    subst (λ s. All (IsForced (under b s)) c.args.self.now.orders.items) none known.orders in
    c.are_contradicted.ensures.sound so (under b None) (rw c.as_slice.ensures.value all)
