use Rattle.check_certificate.proofs.Words.{IsForced, under}
use Rattle.check_certificate.proofs.beginning.LogBeginning.added.Goals as goal
use Rattle.std.proofs.lemmas.List.Elements.{All-push}

pub order_of-requires : goal.order_of-requires
order_of-requires c = rw c.as_slice.ensures.value (λ k d low. c.under-own.ensures.there _ (c.requires.orders k d low))

pub returns-clause-sound : goal.returns-clause-sound
returns-clause-sound c = record {
  orders = rw c.in_ok-push.ensures.items (All-push (IsForced (under c.args.self.now c.args.known.supposed)) c.args.known.orders.items c.in-Some.order
      c.requires.orders (c.under-own.ensures.back c.in-Some.order c.in-Some.ensures.sound));
  before = c.requires.before;
}
