use Rattle.check_certificate.proofs.Words.{◌≡◌, true, intended, given_of, slots_of, AreRuledOutTo, all_below, is_ruled_out, IsCatalogue, operation_of}
use Rattle.check_certificate.proofs.beginning.LogBeginning.are_ruled_out.Given as goal

abbrev pub invariant-loop-access : goal.invariant-loop-access
invariant-loop-access l = record {
  sound : IsCatalogue l.self.catalogue.now → AreRuledOutTo l.self l.aim l.place (operation_of l.request.op) l.access;
  exact : all_below l.access (λ access. is_ruled_out (given_of l.self) l.known l.aim (record { call = l.call; place = l.place; access = access })
      (intended l.self.catalogue.now (slots_of (given_of l.self)) l.place (operation_of l.request.op) access)) ≡ true;
}
