use Rattle.check_certificate.proofs.Words.{◌≡◌, arith, rules, common_steps}
use Rattle.check_certificate.proofs.Forcing.{finds_closed}
use Rattle.check_certificate.proofs.beginning.LogBeginning.finds_closed.Goals as goal

pub returns-clause-sound : goal.returns-clause-sound
returns-clause-sound c =
    let same : c.in_ok-_look.found ≡ c.in_ok-file.file = first_of (search rules, grind (arith, common_steps)) in grind (arith, finds_closed)
