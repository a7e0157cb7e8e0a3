use Rattle.check_certificate.proofs.Words.{◌≡◌, ℕ, ◌<◌, Asked, Called, List, true, IsEventAt, event_at, given_of, AreAllRuledOut, end_of, all_below}
use Rattle.check_certificate.proofs.Words.{is_call_ruled_out, IsCatalogue, nat_lt, not, ◌||◌}
use Rattle.check_certificate.proofs.beginning.LogBeginning.is_walked.Given as goal

abbrev pub invariant-loop-at : goal.invariant-loop-at
invariant-loop-at l = record {
  sound : IsCatalogue l.self.catalogue.now → (p id : ℕ) (requests : List Asked) → p < l.at → p < end_of l.aim
      → IsEventAt l.self p (Called id requests) → AreAllRuledOut l.self l.aim id requests;
  exact : all_below l.at (λ at. not (nat_lt at (end_of l.aim)) || is_call_ruled_out (given_of l.self) l.known l.aim at (event_at (given_of l.self) at)) ≡ true;
}
