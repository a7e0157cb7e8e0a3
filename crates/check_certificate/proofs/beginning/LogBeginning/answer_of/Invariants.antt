use Rattle.check_certificate.proofs.Words.{◌≡◌, ◌-◌, length, first_answer, given_of}
use Rattle.check_certificate.proofs.beginning.LogBeginning.answer_of.Given as goal

abbrev pub invariant-loop-at : goal.invariant-loop-at
invariant-loop-at l = first_answer (given_of l.self) l.place (length l.self.events.now - l.at) l.at
    ≡ first_answer (given_of l.self) l.place (length l.self.events.now - l.call) l.call
