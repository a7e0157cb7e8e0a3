use Rattle.check_search.proofs.Words.{ap, view, slot_claimed, Claim}
use Rattle.check_search.proofs.Hopeless.{get_at, vain}
use Rattle.check_search.proofs.dead.is_dead_by.Goals as goal

pub returns : goal.returns
returns c = λ yes.
    let claim : Claim = c.in-Some-get-2.claim.now in
    let found = c.in-Some-get-2.ensures.lookup in
    vain c.args.strands.now (view c.args.node.now) c.in-Some.chain c.in-Some.k c.in-At.slot c.in-Some-get.strand.now claim (ap slot_claimed c.in-At.is)
    (get_at c.args.strands.now c.in-Some.chain c.in-Some-get.strand.now c.in-Some-get.ensures.lookup.3.0 c.in-Some-get.ensures.lookup.1)
    (rw (c.place_of.ensures, c.deref-2.ensures.value) at c.if-k-place_of.false)
    (get_at c.in-Some-get.strand.now.claims.items c.in-Some.k claim (rw c.deref.ensures.value at found.3.0) (rw c.deref.ensures.value at found.1))
    (c.is_hopeless.ensures yes)
