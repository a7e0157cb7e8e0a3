use Rattle.check_texts.proofs.{IfSome, KeptWays, List, Some, length, refl, slice_get, slice_get_read, subst, ◌≡◌, first_there}
use Rattle.check_texts.proofs.texts.first_rest.Goals as goal

pub returns : goal.returns
returns c =
    let own = c.in_ok-first.field-0.now in
    let first = c.in_ok-first.ensures.item in
    first_there c.args.rests.now own c.start_ring.result
    (slice_get_read c.args.rests.now (length c.args.rests.now) 0 own refl first.3.0 first.1) c.start_ring.ensures.ring c.rest_at.result
    (subst (λ (l : List KeptWays). IfSome c.rest_at.result (λ rest. slice_get l 0 ≡ Some rest.now)) c.deref.ensures.value c.rest_at.ensures.there)
    c.rest_at.ensures.same
