use Rattle.check_certificate.proofs.Words.{◌≡◌, arith, rules, common_steps}
use Rattle.check_certificate.proofs.Forcing.{closes_twice}
use Rattle.check_certificate.proofs.beginning.LogBeginning.closes_twice.Goals as goal

pub returns-clause-sound : goal.returns-clause-sound
returns-clause-sound c =
    let same : c.in_ok-again.again ≡ c.in_ok-file.file = first_of (search rules, grind (arith, common_steps)) in grind (arith, closes_twice)
