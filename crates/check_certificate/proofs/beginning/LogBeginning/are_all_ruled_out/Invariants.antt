use Rattle.check_certificate.proofs.Words.{◌≡◌, ℕ, ◌<◌, Some, slice_get, Asked, true, given_of, AreRuledOut, member_of, all_below, is_asked_ruled_out}
use Rattle.check_certificate.proofs.Words.{IsCatalogue, all_asked}
use Rattle.check_certificate.proofs.beginning.LogBeginning.are_all_ruled_out.Given as goal

abbrev pub invariant-loop-n : goal.invariant-loop-n
invariant-loop-n l = record {
  sound : IsCatalogue l.self.catalogue.now → (k : ℕ) (request : Asked) → k < l.n → slice_get (all_asked l.chain) k ≡ Some request
      → AreRuledOut l.self l.aim (member_of l.id k) request.operation;
  exact : all_below l.n (λ n. is_asked_ruled_out (given_of l.self) l.known l.aim l.call l.id n (slice_get (all_asked l.chain) n)) ≡ true;
}
