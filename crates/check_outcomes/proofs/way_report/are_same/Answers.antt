use Rattle.check_outcomes.proofs.{completion_same, same_each, sym, ◌∙◌, completed_of}
use Rattle.check_outcomes.proofs.way_report.are_same.Goals as goal

pub returns : goal.returns
returns c = λ is. same_each completed_of completion_same c.args.some.now c.args.others.now (sym c.eq.ensures ∙ is)
