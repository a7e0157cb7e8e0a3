use Rattle.check_judge.proofs.{◌≡◌, ◌∙◌, ap, not, sym, true}
use Rattle.check_judge.proofs.Refuting.{never_known}
use Rattle.check_judge.proofs.refuted.is_unknown.Goals as goal

pub returns : goal.returns
returns c = λ yes has. never_known c.args.table.now.slots.now c.args.table.now.chains.now has (λ known.
    let bad : not true ≡ true = sym (ap not (c.is_known.ensures.1 known)) ∙ yes in
    absurd (cc))
