use Rattle.fx_ring.proofs.Words.{ap, rules, State, identity_of}
use Rattle.fx_ring.proofs.Rings.{all_closed, none_rings}
use Rattle.fx_ring.proofs.ring.Ring.unregister.Goals as goal

pub returns-clause-closes : goal.returns-clause-closes
returns-clause-closes c =
    all_closed c.sort.new.self c.self.view_is c.self.invariant.ring (search rules) c.sort.ensures.same_files c.sort.ensures.in_order

pub invariant_of-self : goal.invariant_of-self
invariant_of-self c = record {
  settled = c.empty_into.ensures.settled;
  ring = none_rings _ (ap (λ (st : State). (λ slot. identity_of (st.at slot))) c.empty_into.ensures.empty);
  few_submissions = c.self.invariant.few_submissions;
  few_registrations = c.self.invariant.few_registrations;
}
