use Rattle.check_certificate.proofs.beginning.LogBeginning.is_absent.Goals.{then-is_held-via-then-is_held}
use Rattle.check_certificate.proofs.beginning.LogBeginning.is_absent.Goals.{then-is_held-via-else-is_held+then-is_known_absent}
use Rattle.check_certificate.proofs.beginning.LogBeginning.is_absent.Goals as goal

pub returns-then-is_held-clause-sound : goal.returns-then-is_held-clause-sound
returns-then-is_held-clause-sound c = λ _ other. elim c.then-is_held.branch [
  | then-is_held-via-then-is_held w ↦ absurd (other (c.is_held.ensures.sound w.if-is_held.true))
  | then-is_held-via-else-is_held+then-is_known_absent w ↦ w.is_known_absent.ensures.sound w.if-is_known_absent.true c.args.self.now c.requires
]

pub returns-in-Some-clause-sound : goal.returns-in-Some-clause-sound
returns-in-Some-clause-sound c = λ yes other. c.shows_absent.ensures.sound yes c.args.self.now c.in-Some.ensures.sound
