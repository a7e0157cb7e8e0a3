use Rattle.fx_ring.proofs.Words.{◌∙◌, ap, ring_of, OpenRingContents}
use Rattle.fx_ring.proofs.SubmittedRing.{size_shown}
use Rattle.fx_ring.proofs.open_ring.OpenRing.size.Goals as goal

pub returns : goal.returns
returns g c = size_shown c.self.invariant ∙ ap (λ (opened : OpenRingContents). (ring_of opened.ring).size) c.self.view_is
