use Rattle.check_texts.proofs.{IsRing, ring_with_slots, stage_of, subst, sym, [], ⊎_elim, ◌≡◌, at_value, pushed}
use Rattle.check_texts.proofs.layers.numbers_of.Goals as goal

pub loop-exit-preserved : goal.loop-exit-preserved
loop-exit-preserved c = λ catalogue are old s inside.
    let grows = pushed (stage_of catalogue) c.loop-exit.bare.rings.items _ c.in_ok-push-2.ensures.items
    {P = λ s. (s.ring ≡ ring_with_slots catalogue c.exit-item.result.ring) × (s.printed ≡ [])} (c.in_ok-ring.ensures.same catalogue, c.new.ensures.bytes) in
    ⊎_elim (c.loop-exit.invariant catalogue are old s)
    (λ is. (
      subst IsRing (sym is.0)
          (are (stage_of catalogue c.exit-item.result) (at_value (stage_of catalogue) c.args.exits.now c.loop-exit-test.true c.exit-item.is)),
      is.1,
    )) (grows.from s inside)
