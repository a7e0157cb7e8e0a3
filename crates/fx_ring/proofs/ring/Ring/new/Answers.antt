use Rattle.fx_ring.proofs.Words.{refl, sym, ap, subst, arith, State, IsSettled, identity_of}
use Rattle.fx_ring.proofs.Rings.{none_rings}
use Rattle.fx_ring.proofs.ring.Ring.new.Goals as goal

pub invariant_of-result : goal.invariant_of-result
invariant_of-result c = record {
  settled = subst IsSettled (sym c.none.ensures.state) (record { unheld = λ _. refl; closed = λ _. refl });
  ring = none_rings _ (ap (λ (st : State). (λ slot. identity_of (st.at slot))) c.none.ensures.state);
  few_submissions = omega arith;
  few_registrations = omega arith;
}
