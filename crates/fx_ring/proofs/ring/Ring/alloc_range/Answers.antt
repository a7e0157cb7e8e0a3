use Rattle.fx_ring.proofs.Words.{ap, sym, subst, ◌∙◌, State, IsSettled, RingContents, IsRing, ring_of, with_table}
use Rattle.fx_ring.proofs.Rings.{contents_of}
use Rattle.fx_ring.proofs.ring.Ring.alloc_range.Goals as goal

pub invariant_of-self-2 : goal.invariant_of-self-2
invariant_of-self-2 c =
    let same = (c.in-Ok.ensures.ok).state in
    let was = c.self.invariant in
    let before = contents_of c.self.inside in
    assumption (
      subst IsSettled (sym same) (assumption was.settled),
      subst (λ (st : State). IsRing (with_table (ring_of before) st)) (sym same) (assumption was.ring),
      was,
    )

pub returns-clause-ok : goal.returns-clause-ok
returns-clause-ok c =
    let before = contents_of c.self.inside in
    ap (λ (st : State). with_table (ring_of before) st) (c.in-Ok.ensures.ok).state
    ∙ ap (λ (v : RingContents). record (ring_of v) { range = (c.args.off, c.args.len) }) c.self.view_is
