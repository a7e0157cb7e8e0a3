use Rattle.fx_ring.proofs.Words.{◌<◌, ap, sym, ◌∙◌, rules, state_of, ring_of, MOST_SUBMISSIONS}
use Rattle.fx_ring.proofs.Rings.{emptied_settled, given_back_rings, given_back_at_rest}
use Rattle.fx_ring.proofs.SubmittedRing.{submitted_at_rest, submitted_entries}
use Rattle.fx_ring.proofs.ring.Ring.submit.Goals as goal

pub dismiss-requires-clause-settled : goal.dismiss-requires-clause-settled
dismiss-requires-clause-settled g c = emptied_settled (ap state_of (c.replace.ensures.value ∙ c.replace-plain.ensures.after) ∙ c.none.ensures.state)

pub dismiss-requires-in-Err-clause-settled : goal.dismiss-requires-in-Err-clause-settled
dismiss-requires-in-Err-clause-settled g c =
    emptied_settled (ap state_of (c.replace-in-Err.ensures.value ∙ c.replace-plain.ensures.after) ∙ c.none.ensures.state)

pub invariant_of-self : goal.invariant_of-self
invariant_of-self g c =
    let few : c.self.inside.submissions < MOST_SUBMISSIONS = search rules in
    let left = sym c.replace.ensures.after in
    submitted_at_rest c.self.invariant (rw (c.replace-plain.ensures.value, left) at (c.in-Ok.ensures.played c.self.inside.registrations))
    (rw left at c.in-Ok.ensures.settled) few

pub invariant_of-self-in-Err : goal.invariant_of-self-in-Err
invariant_of-self-in-Err g c = given_back_at_rest c.self.invariant
    (rw (c.replace-plain.ensures.value, sym c.replace-in-Err.ensures.after) at c.in-Err.ensures.refused)

pub returns-in-Ok-clause-entries : goal.returns-in-Ok-clause-entries
returns-in-Ok-clause-entries g c =
    submitted_entries c.self.invariant.ring (rw c.replace-plain.ensures.value at (c.in-Ok.ensures.played c.self.inside.registrations))

pub returns-clause-err : goal.returns-clause-err
returns-clause-err g c =
    given_back_rings (rw (c.replace-plain.ensures.value, sym c.replace-in-Err.ensures.after) at c.in-Err.ensures.refused) ∙ ap ring_of c.self.view_is
