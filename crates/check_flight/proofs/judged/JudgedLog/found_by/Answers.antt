use Rattle.check_flight.proofs.{◌≡◌, ◌∙◌, ℕ, ap, arith, inside_at, happening_of, LookAnswered}
use Rattle.check_flight.proofs.judged.JudgedLog.found_by.Goals as goal

pub returns-in-Some-Found : goal.returns-in-Some-Found
returns-in-Some-Found c =
    let found = c.in-Some-Found.ensures.lookup in
    let same : c.in-Some-Found.id ≡ c.args.look = omega arith in
    inside_at happening_of c.args.self.now.events.now found.3.0 found.1
    (ap happening_of c.in-Some-Found.field-0-is ∙ ap (λ (n : ℕ). LookAnswered n c.in-Some-Found.file) same)
