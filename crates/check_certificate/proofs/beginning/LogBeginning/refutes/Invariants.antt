use Rattle.check_certificate.proofs.Words.{◌≡◌, AreKnownOrders, leads_on, given_of, known_of, nothing, drop}
use Rattle.check_certificate.proofs.beginning.LogBeginning.refutes.Given as goal

abbrev pub invariant-loop-step : goal.invariant-loop-step
invariant-loop-step l = record {
  sound : AreKnownOrders l.self l.known;
  exact : leads_on (given_of l.self) (known_of l.known) (drop l.step-index l.certificate) ≡ leads_on (given_of l.self) nothing l.certificate;
}
