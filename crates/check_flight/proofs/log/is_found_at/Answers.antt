use Rattle.check_flight.proofs.{◌≡◌, ◌∙◌, ap, arith, inside_at, happening_of, rules, LookAnswered}
use Rattle.check_flight.proofs.log.is_found_at.Goals as goal

pub returns-then-id-look : goal.returns-then-id-look
returns-then-id-look c = λ it.
    let found = c.in-Some-Found.ensures.lookup in
    let number : c.in-Some-Found.id ≡ c.args.look = omega arith in
    let file : c.in-Some-Found.file ≡ c.args.found = search rules in
    inside_at happening_of c.args.events.now found.3.0 found.1
    (ap happening_of c.in-Some-Found.field-0-is ∙ (λ i. LookAnswered (number i) (file i)))
