use Rattle.check_texts.proofs.{arith, [], ◌∷◌}
use Rattle.check_texts.proofs.rings.start.Goals as goal

pub invariant_of-push : goal.invariant_of-push
invariant_of-push c = record { few_slots = omega (arith, c.start_ring.ensures.empty) }

pub returns : goal.returns
returns c = λ catalogue.
    rw (c.in_ok-push.ensures.items, c.new-rings.ensures.items)
    (λ i. record { ring = c.start_ring.ensures.ring catalogue i; printed = c.new.ensures.bytes i } ∷ [])
