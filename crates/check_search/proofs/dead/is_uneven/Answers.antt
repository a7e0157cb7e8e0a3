use Rattle.check_search.proofs.Words.{arith, sym, view}
use Rattle.check_search.proofs.Uneven.{uneven_ends}
use Rattle.check_search.proofs.dead.is_uneven.Goals as goal

pub returns : goal.returns
returns c = λ yes. uneven_ends c.args.strands.now (view c.args.node.now) c.args.slot
    (rw c.deref.ensures.value at (sym c.if-not-has_slot.ensures)) (omega (arith, c.args.node.now.places.ok.0)) (c.in-Some.ensures yes)
