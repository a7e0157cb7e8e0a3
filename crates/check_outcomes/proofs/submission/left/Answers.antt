use Rattle.check_outcomes.proofs.{◌-◌, length, drop, sym, ap, ◌∙◌, arith, drop-map, take_all, all_asked, asked_of, length-drop}
use Rattle.check_outcomes.proofs.submission.left.Goals as goal

pub returns-clause-left : goal.returns-clause-left
returns-clause-left c =
    let members = c.args.members.now in
    let done = c.args.done in
    ap all_asked (take_all (length members - done) (drop done members) (omega (arith, length-drop done members)))
    ∙ sym (drop-map asked_of done members)
