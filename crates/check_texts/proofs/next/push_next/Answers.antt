use Rattle.check_texts.proofs.next.push_next.Goals as goal

pub returns-in-Some : goal.returns-in-Some
returns-in-Some c = rw c.in-Some.ensures.requests c.push_reports.ensures
