use Rattle.check_flight.proofs.{ap, inside_at, happening_of}
use Rattle.check_flight.proofs.judged.JudgedLog.answer_at.Goals as goal

pub returns-in-Some-Done : goal.returns-in-Some-Done
returns-in-Some-Done c =
    let found = c.in-Some-Done.ensures.lookup in
    inside_at happening_of c.args.self.now.events.now found.3.0 found.1 (ap happening_of c.in-Some-Done.field-0-is)
