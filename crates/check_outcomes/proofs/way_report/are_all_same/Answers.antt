use Rattle.check_outcomes.proofs.{sym, ◌∙◌, all_completed, completed_of, Vec, Completion, completion_same, same_each}
use Rattle.check_outcomes.proofs.way_report.are_all_same.Goals as goal

pub returns : goal.returns
returns c = λ is. same_each (λ (own : Vec Completion). all_completed own.items)
    (λ one other. same_each completed_of completion_same one.items other.items) c.args.some.now c.args.others.now (sym c.eq.ensures ∙ is)
