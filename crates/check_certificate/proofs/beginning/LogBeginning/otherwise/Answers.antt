use Rattle.check_certificate.proofs.Words.{All, None, Some, IsForced, IsKeptByNone, under, subst}
use Rattle.check_certificate.proofs.Supposing.{opposed_all}
use Rattle.check_certificate.proofs.beginning.LogBeginning.otherwise.Goals as goal
use Rattle.std.proofs.lemmas.List.Elements.{All-nil, All-same}

pub returns-clause-sound : goal.returns-clause-sound
returns-clause-sound c =
    let all : All (IsForced (under c.args.self.now (Some c.in-Some.order))) c.args.known.orders.items =
    subst (λ s. All (IsForced (under c.args.self.now s)) c.args.known.orders.items) c.in-Some.is c.requires.orders in
    let none : IsKeptByNone (under c.args.self.now (Some c.in-Some.order)) =
    c.are_contradicted.ensures.sound c.if-not-are_contradicted.false _ (rw c.as_slice.ensures.value all) in
    record {
      orders = rw (c.in_ok-resize.ensures.items, c.opposite.ensures) (opposed_all c.args.self.now c.in-Some.order c.args.known.before.items _ _ c.requires.before none);
      before = All-same (IsForced (under c.args.self.now None)) _ _ c.new.ensures.items (All-nil (IsForced (under c.args.self.now None)));
    }
