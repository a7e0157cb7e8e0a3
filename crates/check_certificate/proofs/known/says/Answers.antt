use Rattle.check_certificate.proofs.Words.{◌≡◌, arith, rules, common_steps}
use Rattle.check_certificate.proofs.Takers.{same_order}
use Rattle.check_certificate.proofs.known.says.Goals as goal

pub returns-clause-sound : goal.returns-clause-sound
returns-clause-sound c = λ _.
    let first : c.args.order.now.from ≡ c.args.from = first_of (search rules, grind (arith, common_steps)) in grind (arith, same_order)
