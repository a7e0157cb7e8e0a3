use Rattle.check_texts.proofs.{Table, ap, ring_with_slots, ◌+◌}
use Rattle.check_texts.proofs.walk.Reached.ring_after.Goals as goal

pub returns-clause-ring : goal.returns-clause-ring
returns-clause-ring c = λ catalogue.
    let ring = c.args.self.now.ring in
    ap (λ (t : Table). record (ring_with_slots catalogue ring) { size = t.size; range = t.range; at = t.at; submissions = ring.submissions + 1 })
    c.in_ok-slots.ensures
