use Rattle.fx_ring.proofs.Words.{rules, ◌≡◌, ◌∙◌, [], ◌∷◌, ap, ring_of, OpenRingContents}
use Rattle.fx_ring.proofs.SubmittedRing.{closed_ring}
use Rattle.fx_ring.proofs.open_ring.OpenRing.close.Goals as goal

pub invariant_of-result : goal.invariant_of-result
invariant_of-result g c =
    let items : c.push_reserved.new.self.items ≡ c.self.inside.pass ∷ [] = search rules in
    (closed_ring c.self.invariant (rw items at c.close.ensures)).1

pub returns : goal.returns
returns g c =
    let items : c.push_reserved.new.self.items ≡ c.self.inside.pass ∷ [] = search rules in
    (closed_ring c.self.invariant (rw items at c.close.ensures)).0 ∙ ap (λ (opened : OpenRingContents). ring_of opened.ring) c.self.view_is
